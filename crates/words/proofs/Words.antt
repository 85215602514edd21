-- Laws of bytes and the number that they spell: each is settled by the other.
-- Assumes nothing.
use mathlib.Core.Path.{◌≡◌, refl, ◌∙◌, ap, ap₂, sym}
use mathlib.Core.List.{List, [], ◌∷◌}
use Prim.Native.Nat.{ℕ, zero, suc, ◌+◌, ◌*◌, ◌/◌, ◌%◌, ◌^◌, ◌<◌}
use native.Mathlib.Omega.{arith}
use native.Mathlib.Nat.{mod-lt, mod-eq_of_lt, add-mul-div_right, pow-suc}
use lib.ListN.{length, get_or}
use lib.Pow.{pow-add, mod-pow-add, pow_pos, high}
use lib.Arith.{digits_lt}
use Rattle.nibbles.proofs.Lists.{Below}
use mir.Syntax.{w64}
use Rattle.std.specs.Int.{byte_at, bytes_high_first, from_be_bytes}
use Rattle.std.proofs.lemmas.Nat.{be_bytes_8}
use Rattle.words.specs.Words.{spelled, in_bytes}

-- ---- the bytes of a number

pub length_bytes : (n w : ℕ) → length (in_bytes n w) ≡ n
unfolding in_bytes
length_bytes zero w = refl
length_bytes (suc n) w = ap suc (length_bytes n w)

pub bytes_below : (n w : ℕ) → Below 256 (in_bytes n w)
unfolding in_bytes
bytes_below zero w = tt
bytes_below (suc n) w = (mod-lt (w / 2 ^ (8 * n)) (omega arith), bytes_below n w)

-- ---- the number of a run

pub spelled_lt : (bs : List ℕ) → Below 256 bs → spelled bs < 2 ^ (8 * length bs)
unfolding spelled
spelled_lt [] h = let z : 0 < 2 ^ (8 * 0) = omega arith in z
spelled_lt (b ∷ bs) h =
    let e : 8 * suc (length bs) ≡ 8 + 8 * length bs = omega arith in
    let z : b * 2 ^ (8 * length bs) + spelled bs < 2 ^ (8 * suc (length bs)) = rw (e, pow-add) (digits_lt h.0 (spelled_lt bs h.1)) in
    z

-- ---- there and back

pub spelled_bytes : (n w : ℕ) → spelled (in_bytes n w) ≡ w % 2 ^ (8 * n)
unfolding spelled in_bytes
spelled_bytes zero w = sym (let z : w % 2 ^ (8 * 0) ≡ 0 = omega arith in z)
spelled_bytes (suc n) w =
    let e : 8 + 8 * n ≡ 8 * suc n = omega arith in
    ap₂ (λ (k x : ℕ). w / 2 ^ (8 * n) % 256 * 2 ^ (8 * k) + x) (length_bytes n w) (spelled_bytes n w)
    ∙ sym (mod-pow-add w 8 (8 * n)) ∙ ap (λ (m : ℕ). w % 2 ^ m) e

-- what stands above them is not among the n last bytes
bytes_above : (n a r : ℕ) → in_bytes n (a * 2 ^ (8 * n) + r) ≡ in_bytes n r
unfolding in_bytes
bytes_above zero a r = refl
bytes_above (suc n) a r =
    let e : 8 * suc n ≡ 8 + 8 * n = omega arith in
    let s : a * 2 ^ (8 * suc n) + r ≡ r + a * 256 * 2 ^ (8 * n) = ap (λ (m : ℕ). a * 2 ^ m + r) e ∙ ap (λ (x : ℕ). a * x + r) (pow-add 2 8 (8 * n)) ∙ omega arith in
    let t : a * 2 ^ (8 * suc n) + r ≡ a * 256 * 2 ^ (8 * n) + r = s ∙ omega arith in
    ap₂ (λ (x : ℕ) (l : List ℕ). x ∷ l)
    (ap (λ (x : ℕ). x / 2 ^ (8 * n) % 256) s ∙ ap (λ (x : ℕ). x % 256) (add-mul-div_right r (a * 256) (pow_pos (8 * n))) ∙ whole_bytes (r / 2 ^ (8 * n)) a)
    (ap (in_bytes n) t ∙ bytes_above n (a * 256) r)
  where
    whole_bytes : (x y : ℕ) → (x + y * 256) % 256 ≡ x % 256
    whole_bytes x y = omega arith

pub bytes_spelled : (bs : List ℕ) → Below 256 bs → in_bytes (length bs) (spelled bs) ≡ bs
unfolding in_bytes spelled
bytes_spelled [] h = refl
bytes_spelled (b ∷ bs) h =
    ap₂ (λ (x : ℕ) (l : List ℕ). x ∷ l)
    (ap (λ (x : ℕ). x % 256) (high b (8 * length bs) (spelled_lt bs h.1)) ∙ mod-eq_of_lt h.0)
    (bytes_above (length bs) b (spelled bs) ∙ bytes_spelled bs h.1)

-- ---- the library's bytes of a number

power : (i : ℕ) → 2 ^ (8 * i) ≡ 256 ^ i
power zero = refl
power (suc i) = ap (λ (k : ℕ). 2 ^ k) (omega arith) ∙ pow-add 2 (8 * i) 8 ∙ ap (λ (x : ℕ). x * 256) (power i) ∙ sym (pow-suc 256 i)

at_place : (i w : ℕ) → w / 2 ^ (8 * i) % 256 ≡ byte_at i w
at_place zero w = omega arith
at_place (suc i) w = ap (λ (x : ℕ). w / x % 256) (power (suc i))

pub high_first : (n w : ℕ) → in_bytes n w ≡ bytes_high_first n w
unfolding in_bytes
high_first zero w = refl
high_first (suc n) w = ap₂ (λ (b : ℕ) (bs : List ℕ). b ∷ bs) (at_place n w) (high_first n w)

pub spelled_from : (bs : List ℕ) (w : ℕ) → length bs ≡ 8 → ((i : ℕ) → get_or bs i 0 < 256) → w < 2 ^ 64 → w ≡ from_be_bytes w64 bs → w ≡ spelled bs
spelled_from bs w long small fits e =
    sym (mod-eq_of_lt fits) ∙ sym (spelled_bytes 8 w) ∙ ap spelled (high_first 8 w ∙ be_bytes_8 bs w long small e)
