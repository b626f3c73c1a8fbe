-- The words for a book's codes.
use Rattle.std.specs.Prelude.{ℕ, cond, List, codes, ◌==◌}

abbrev pub way_name : ℕ → List ℕ
way_name n =
    cond (n == 0) (codes "crossing")
    (cond (n == 1) (codes "principles")
    (cond (n == 2) (codes "buyer's price")
    (cond (n == 3) (codes "seller's price")
    (cond (n == 4) (codes "half the sum")
    (cond (n == 5) (codes "continuous at the earlier order's price")
    (codes "unknown"))))))

abbrev pub sharing_name : ℕ → List ℕ
sharing_name n =
    cond (n == 0) (codes "earliest first")
    (cond (n == 1) (codes "largest first")
    (cond (n == 2) (codes "pro rata")
    (codes "unknown")))

abbrev pub side_name : ℕ → List ℕ
side_name n =
    cond (n == 0) (codes "buy")
    (cond (n == 1) (codes "sell")
    (codes "unknown"))

abbrev pub kind_name : ℕ → List ℕ
kind_name n =
    cond (n == 0) (codes "normal")
    (cond (n == 1) (codes "fill-and-kill")
    (cond (n == 2) (codes "fill-or-kill")
    (codes "unknown")))
