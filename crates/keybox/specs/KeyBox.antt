-- What the key box answered: two slices, and whether the keys' parity is right.
use Rattle.std.specs.Prelude.{ℕ, List, Bool}
use Rattle.numbers.specs.Numbers.{Outcome, done, and_then, unless}
use Rattle.numbers.specs.declared.Refusal.TheVariants.{PinKeyParity10, PvkParity11}
use Rattle.pins.specs.Pins.{sized}
use Rattle.fields.specs.Fields.{Ruling, pointing, unpointed}

-- "two slices that are not 8 bytes long (15)": the nibbles of the deciphered PIN block and of the enciphered validation block
unfoldable pub slices : List ℕ → List ℕ → Outcome (List ℕ × List ℕ)
slices block enciphered =
    and_then (sized 8 block)
    (λ ns. and_then (sized 8 enciphered)
    (λ es. done (ns, es)))

-- "10, 11": nothing is made of good parities
unfoldable pub parities : Bool → Bool → Outcome (Unit {0})
parities pin_key_good pvk_good =
    and_then (unless PinKeyParity10 pin_key_good (tt {0}))
    (λ _. unless PvkParity11 pvk_good (tt {0}))

-- the one, then the other: slices that are not 8 bytes long are pointed at the command's end, parities at nothing
unfoldable pub boxed : ℕ → Bool → Bool → List ℕ → List ℕ → Ruling (List ℕ × List ℕ)
boxed end pin_key_good pvk_good block enciphered =
    and_then (pointing 0 end (slices block enciphered))
    (λ rows. and_then (unpointed (parities pin_key_good pvk_good))
    (λ _. done rows))
