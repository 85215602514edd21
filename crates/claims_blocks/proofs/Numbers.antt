-- The numbers that the calls answer.
-- Assumes nothing.
use Prim.Native.Nat.{ℕ}
use mathlib.Core.Path.{refl}
use mathlib.Core.Logic.{inl, inr}
use mathlib.Core.List.{List, map}
use mathlib.Core.Bool.{Bool, ◌&&◌}
use lib.ListN.{length}
use lib.Dec.{leb, eqb}
use Rattle.nibbles.specs.Nibbles.{nibs, packs, within, every}
use Rattle.alphabet.specs.Alphabet.{all_of, value_of}
use Rattle.alphabet.specs.declared.Class.TheVariants.{Digit}
use Rattle.numbers.specs.Numbers.{Outcome, done, refused, unless}
use Rattle.numbers.specs.Promise.{quietly}
use Rattle.numbers.specs.declared.Refusal.{Refusal}
use Rattle.numbers.specs.declared.Refusal.TheVariants.{Field15, Block20, Format23, Length24, NotHere69, Room901}
use Rattle.codes.specs.Codes.{code_of, format_of, is_known, known_code}
use Rattle.codes.specs.declared.Code.{Code}
use Rattle.codes.specs.declared.Code.TheVariants.{Built, Known, Unknown}
use Rattle.formats.specs.declared.Format.{Format}
use Rattle.pins.specs.Pins.{digit, pin_length, digits_handed, pin_handed, padded, account_of, account_field, sized}
use Rattle.blocks.specs.Blocks.{read_row, write_row}
use Rattle.blockcalls.specs.BlockCalls.{read_block, write_block}
use Rattle.restriction.specs.Restriction.{permitted}
use Rattle.pairs.specs.Pairs.{pair_of}
use Rattle.translation.specs.Translation.{translate_block}
use Rattle.claims_blocks.specs.Promises.{OfCalls, NumbersOfCalls}
use Rattle.claims_blocks.proofs.Judged.{Only, Fault, done_only, refused_only, test_only, then_only}
use Rattle.claims_blocks.proofs.Trips.{read_faults}

-- a refusal that a call can come to
abbrev Given : Refusal → Type 0
Given q = OfCalls (quietly (refused q))

abbrev Gives : {A : Type 0} → Outcome A → Type 0
Gives o = Only Given o

-- what is no other refusal is no other number
given : (o : Outcome (List ℕ)) → Gives o → OfCalls (quietly o)
given (done w) h = refl
given (refused q) h = h q refl

fault_given : (q : Refusal) → Fault q → Given q
fault_given q (inl e) = rw e
fault_given q (inr e) = rw e

row_gives : (f : Format) (with ns : List ℕ) → Gives (read_row f with ns)
row_gives f with ns q e = fault_given q (read_faults f with ns q e)

format_gives : (c : Code) → Gives (format_of c)
format_gives (Built f) = done_only Given f
format_gives Known = refused_only Given NotHere69 refl
format_gives Unknown = refused_only Given Format23 refl

account_gives : (account : List ℕ) → Gives (account_of account)
account_gives account = test_only Given Field15 refl (eqb (length account) 12 && all_of Digit account) (padded (map value_of account))

sized_gives : (bytes : List ℕ) → Gives (sized 8 bytes)
sized_gives bytes = test_only Given Field15 refl (eqb (length bytes) 8) (nibs bytes)

pin_gives : (ds : List ℕ) → Gives (pin_handed ds)
pin_gives ds = then_only Given (pin_length (length ds)) (λ _. digits_handed ds) (test_only Given Length24 refl (within 4 12 (length ds)) (length ds)) (λ _. test_only Given Block20 refl (every digit ds) ds)

pair_gives : (restricted : Bool) (from to : ℕ) → Gives (pair_of restricted from to)
unfolding pair_of
pair_gives restricted from to =
    then_only Given (known_code (code_of from)) _ (test_only Given Format23 refl (is_known (code_of from)) (code_of from))
    (λ _. then_only Given (known_code (code_of to)) _ (test_only Given Format23 refl (is_known (code_of to)) (code_of to))
    (λ _. then_only Given (format_of (code_of from)) _ (format_gives (code_of from))
    (λ f. then_only Given (format_of (code_of to)) _ (format_gives (code_of to))
    (λ t. test_only Given NotHere69 refl (permitted restricted f t) (f, t)))))

room_gives : (least room : ℕ) → Gives (unless Room901 (leb least room) room)
room_gives least room = test_only Given Room901 refl (leb least room) room

pub numbers_of_calls : NumbersOfCalls
unfolding read_block write_block translate_block
numbers_of_calls = (
  λ code block account before. given _
      (then_only Given (unless Room901 (leb 12 (length before)) (length before)) _ (room_gives 12 (length before))
      (λ _. then_only Given (sized 8 block) _ (sized_gives block)
      (λ ns. then_only Given (account_of account) _ (account_gives account)
      (λ digits. then_only Given (format_of (code_of code)) _ (format_gives (code_of code))
      (λ f. row_gives f (account_field digits) ns))))),
  λ code pin account fill before. given _
      (then_only Given (unless Room901 (leb 8 (length before)) (length before)) _ (room_gives 8 (length before))
      (λ _. then_only Given (account_of account) _ (account_gives account)
      (λ digits. then_only Given (sized 8 fill) _ (sized_gives fill)
      (λ fs. then_only Given (format_of (code_of code)) _ (format_gives (code_of code))
      (λ f. then_only Given (pin_handed pin) _ (pin_gives pin)
      (λ ds. done_only Given (packs (write_row f (account_field digits) ds fs)))))))),
  λ restricted from to block account fill before. given _
      (then_only Given (unless Room901 (leb 8 (length before)) (length before)) _ (room_gives 8 (length before))
      (λ _. then_only Given (sized 8 block) _ (sized_gives block)
      (λ ns. then_only Given (account_of account) _ (account_gives account)
      (λ digits. then_only Given (sized 8 fill) _ (sized_gives fill)
      (λ fs. then_only Given (pair_of restricted from to) _ (pair_gives restricted from to)
      (λ pair. then_only Given (read_row pair.0 (account_field digits) ns) _ (row_gives pair.0 (account_field digits) ns)
      (λ ds. done_only Given (packs (write_row pair.1 (account_field digits) ds fs))))))))),
)
