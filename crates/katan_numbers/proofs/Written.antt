-- A number written byte by byte; a list written part by part.
-- Assumes nothing.
use Rattle.std.proofs.Common.{◌≡◌, ℕ, suc, ◌+◌, ◌-◌, ◌/◌, ◌%◌, ◌^◌, ◌<◌, ◌≤◌, List, ◌++◌, length, take, drop, set, ap, ◌∙◌, append_assoc, append-nil, add-one, arith, length-append, drop_of_length-le, drop-drop, take-suc-set, take_at, drop_at}
use Rattle.katan.specs.Bit.{bytes_of}

-- its bytes, one after the other; n of them in all, and r is what is left of the number
pub number_on : (n i r : ℕ) (xs : List ℕ) → i < length xs → i < n
    → take (i + 1) (set xs i (r % 2 ^ 8)) ++ bytes_of (n - (i + 1)) (r / 2 ^ 8) ≡ take i xs ++ bytes_of (n - i) r
unfolding bytes_of
number_on n i r xs h q =
    let e : n - i ≡ suc (n - (i + 1)) = omega arith in
    rw e (simp (add-one, take-suc-set xs i (r % 2 ^ 8) h, append_assoc))

-- into as many bytes as are lent
pub in_bytes : (n x : ℕ) {m : ℕ} {ys : List ℕ} → ys ≡ bytes_of m x → m ≡ n → ys ≡ bytes_of n x
in_bytes n x e l = e ∙ ap (λ (k : ℕ). bytes_of k x) l

-- a list written anew in two parts, and in three
pub two_parts : (a k : ℕ) (xs ys zs : List ℕ) → length xs ≡ a + k → length ys ≡ a
    → take a (ys ++ drop a xs) ++ (zs ++ drop k (drop a (ys ++ drop a xs))) ≡ ys ++ zs
two_parts a k xs ys zs l ly =
    let le : length xs ≤ a + k = omega arith in
    simp (take_at ys (drop a xs) a ly, drop_at ys (drop a xs) a ly, drop-drop k a xs, drop_of_length-le xs le, append-nil)

pub three_parts : (a b k : ℕ) (xs ys zs ws : List ℕ) → length xs ≡ a + b + k → length ys ≡ a → length zs ≡ b
    → let now = take a (ys ++ drop a xs) ++ (zs ++ drop b (drop a (ys ++ drop a xs))) in
    take (a + b) now ++ (ws ++ drop k (drop (a + b) now)) ≡ ys ++ zs ++ ws
three_parts a b k xs ys zs ws l ly lz =
    let now = take a (ys ++ drop a xs) ++ (zs ++ drop b (drop a (ys ++ drop a xs))) in
    let e : now ≡ (ys ++ zs) ++ drop (a + b) xs = simp (take_at ys (drop a xs) a ly, drop_at ys (drop a xs) a ly, drop-drop b a xs, append_assoc) in
    let m : length (ys ++ zs) ≡ a + b = simp length-append (omega arith) in
    ap (λ (o : List ℕ). take (a + b) o ++ (ws ++ drop k (drop (a + b) o))) e ∙ two_parts (a + b) k xs (ys ++ zs) ws l m
