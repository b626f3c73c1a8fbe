-- Texts that grow line by line.
use Rattle.std.proofs.Common.{◌≡◌, ℕ, List, ◌++◌, append_assoc}

pub five : (a b c d e f v w x y z : List ℕ) → b ≡ a ++ v → c ≡ b ++ w → d ≡ c ++ x → e ≡ d ++ y → f ≡ e ++ z → f ≡ a ++ (v ++ (w ++ (x ++ (y ++ z))))
five a b c d e f v w x y z p q r s t = rw (t, s, r, q, p) (simp append_assoc)
