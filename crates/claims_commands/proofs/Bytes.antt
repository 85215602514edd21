-- What the bytes of a response tell, without its number.
-- Assumes nothing.
use Prim.Native.Nat.{ℕ, ◌+◌, ◌<◌, ◌/◌, ◌%◌}
use native.Mathlib.Omega.{arith}
use mathlib.Core.Path.{◌≡◌, refl, sym, ap, ap₂, ◌∙◌}
use mathlib.Core.List.{List, [], ◌∷◌, ◌++◌, append_assoc, append-nil, append_cancel_left}
use mathlib.Core.Bool.{Bool}
use lib.ListN.{get_or, take}
use Rattle.numbers.specs.Numbers.{Outcome, done, refused, number_of}
use Rattle.numbers.specs.Promise.{Said}
use Rattle.numbers.specs.declared.Refusal.{Refusal}
use Rattle.settings.specs.declared.Settings.{Settings}
use Rattle.frame.specs.Frame.{raised, in_two_digits, opening}
use Rattle.frame.specs.declared.Code.{Code}
use Rattle.frame.specs.declared.Code.TheVariants as code
use Rattle.bkfields.specs.BkFields.{bk_fields}
use Rattle.fields.specs.Fields.{Ruling}
use Rattle.responses.specs.Responses.{responding}
use Rattle.commands.specs.Commands.{answered}
use Rattle.claims_commands.proofs.Opened.{answered_framed}
use Rattle.claims_numbers.proofs.Numbers.{never_00}
use Rattle.claims_alike.specs.Alike.{Layout, fields, Outside}
use Rattle.claims_alike.proofs.Alike as any
use Rattle.claims_commands.specs.Runs.{Reached}
use Rattle.claims_commands.specs.Claims.{BytesTell, BytesTellDifferences}
use Rattle.claims_commands.proofs.Listing.{bk_layout}
use Rattle.claims_commands.proofs.Alike.{opening_alike}
use Rattle.claims_commands.proofs.Numbers.{two_digit}
use Rattle.claims_commands.proofs.Differences.{offsets_tell_differences}

-- two digits tell a number under 100
two_digits : (m n : ℕ) (x y : List ℕ) → m < 100 → n < 100 → in_two_digits m ++ x ≡ in_two_digits n ++ y → m ≡ n
two_digits m n x y small small' e =
    let tens : 0x30 + m / 10 % 10 ≡ 0x30 + n / 10 % 10 = ap (λ (l : List ℕ). get_or l 0 0) e in
    let ones : 0x30 + m % 10 ≡ 0x30 + n % 10 = ap (λ (l : List ℕ). get_or l 1 0) e in
    omega arith

-- so does the opening before anything
opening_tells : (header : ℕ) (t : List ℕ) (m n : ℕ) (x y : List ℕ) → m < 100 → n < 100 → opening header t m ++ x ≡ opening header t n ++ y → m ≡ n
unfolding opening
opening_tells header t m n x y small small' e =
    let code : List ℕ = get_or t header 0 ∷ raised (get_or t (header + 1) 0) ∷ [] in
    let front = take header t ++ code in
    let split : (k : ℕ) (z : List ℕ) → (take header t ++ (code ++ in_two_digits k)) ++ z ≡ front ++ (in_two_digits k ++ z)
    = λ k z. ap (λ (l : List ℕ). l ++ z) (sym (append_assoc (take header t) code (in_two_digits k))) ∙ append_assoc front (in_two_digits k) z in
    two_digits m n x y small small' (append_cancel_left front (in_two_digits m ++ x) (in_two_digits n ++ y) (sym (split m x) ∙ e ∙ split n y))

module _ (header : ℕ) (s t : List ℕ) (opened : (number : ℕ) → opening header s number ≡ opening header t number) where
  -- by what stands behind the openings
  told : (m n : ℕ) (x y : List ℕ) → m < 100 → n < 100 → opening header s m ++ x ≡ opening header t n ++ y → m ≡ n
  told m n x y small small' e = opening_tells header t m n x y small small' (ap (λ (l : List ℕ). l ++ x) (sym (opened m)) ∙ e)

  bare : (l : List ℕ) → l ≡ l ++ []
  bare l = sym (append-nil l)

  bytes_told : (o o' : Outcome (List ℕ)) → ((q : Refusal) → o ≡ refused q → number_of q < 100) → ((q : Refusal) → o' ≡ refused q → number_of q < 100)
      → (responding header s o).written ≡ (responding header t o').written → responding header s o ≡ responding header t o'
  bytes_told (done w) (done v) small small' e = ap (λ (l : List ℕ). record { number = 0; written = l }) e
  bytes_told (done w) (refused q) small small' e = absurd (never_00 q (told 0 (number_of q) w [] (omega arith) (small' q refl) (e ∙ bare _)))
  bytes_told (refused p) (done v) small small' e = absurd (never_00 p (sym (told (number_of p) 0 [] v (small p refl) (omega arith) (sym (bare _) ∙ e))))
  bytes_told (refused p) (refused q) small small' e =
      ap₂ (λ (n : ℕ) (l : List ℕ). record { number = n; written = l }) (told (number_of p) (number_of q) [] [] (small p refl) (small' q refl) (sym (bare _) ∙ e ∙ bare _)) e

pub bytes_tell : BytesTell
bytes_tell = bytes_told

-- ---- two runs

-- of any command, which lies around its PIN block: where their bytes agree all that they say does
pub bytes_settle : {n : ℕ} {F X A S R : Type 0} (l : Layout n F X A S) (command : Code) (box box' : Ruling R)
    (settings : Settings) (g h g' h' : Bool) (room room' : ℕ) (s t block block' enciphered enciphered' : List ℕ)
    (r : Reached command (fields l) box settings.header room s) (r' : Reached command (fields l) box' settings.header room' t) → Outside n (l.place r.fields) s t
    → (answered settings g h s block enciphered room).written ≡ (answered settings g' h' t block' enciphered' room').written
    → answered settings g h s block enciphered room ≡ answered settings g' h' t block' enciphered' room'
bytes_settle {n} {F} {X} {A} {S} l command box box' settings g h g' h' room room' s t block block' enciphered enciphered' r r' alike e =
    let header = settings.header in
    let within = (any.read_alike n F X A S l s t (header + 2) r.fields r'.fields r.past r'.past r.read r'.read alike).within in
    let here = answered_framed settings g h s block enciphered room r.roomy r.framed in
    let there = answered_framed settings g' h' t block' enciphered' room' r'.roomy r'.framed in
    let bytes = ap (λ (x : Said ℕ). x.written) (sym here) ∙ e ∙ ap (λ (x : Said ℕ). x.written) there in
    let opened : (k : ℕ) → opening header s k ≡ opening header t k = λ k. opening_alike header k (l.place r.fields) s t within alike.before in
    here ∙ bytes_tell header s t opened _ _ (two_digit settings g h s block enciphered header) (two_digit settings g' h' t block' enciphered' header) bytes ∙ sym there

-- of BK
pub bytes_tell_differences : BytesTellDifferences
unfolding bk_fields
bytes_tell_differences settings g h room room' s t block block' enciphered enciphered' r r' m alike long c =
    let tell = offsets_tell_differences settings g h room room' s t block block' enciphered enciphered' r r' m alike long c in (
      λ e. tell.0 (bytes_settle (bk_layout settings.restricted) code.Bk _ _ settings g h g h room room' s t block block' enciphered enciphered' r.reaches r'.reaches alike e),
      λ e. ap (λ (x : Said ℕ). x.written) (tell.1 e),
    )
