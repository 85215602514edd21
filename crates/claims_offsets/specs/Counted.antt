-- What validation data are, by counting their characters.
use Prim.Native.Char.{code}
use Rattle.std.specs.Prelude.{ℕ, suc, ◌≤◌, ◌≡◌, ◌↔◌, ◌⊎◌, List, [], ◌∷◌, Bool, cond, length, eqb}
use Rattle.alphabet.specs.Alphabet.{admits}
use Rattle.alphabet.specs.declared.Class.TheVariants.{CapitalHex}
use Rattle.numbers.specs.Numbers.{done}
use Rattle.numbers.specs.Promise.{Said, quietly}
use Rattle.pins.specs.Pins.{account_of}
use Rattle.validation.specs.Validation.{validation_block}

-- how many characters pass a test
abbrev pub how_many : (ℕ → Bool) → List ℕ → ℕ
how_many test [] = 0
how_many test (c ∷ cs) = cond (test c) (suc (how_many test cs)) (how_many test cs)

-- how many are hex, and how many are `N`
abbrev pub hexes : List ℕ → ℕ
hexes cs = how_many (admits CapitalHex) cs

abbrev pub ens : List ℕ → ℕ
ens cs = how_many (λ c. eqb c (code "N")) cs

-- "12 characters, eleven hex and exactly one `N`"
abbrev pub ElevenAndN : List ℕ → Type 0
ElevenAndN cs = (length cs ≡ 12) × (hexes cs ≡ 11) × (ens cs ≡ 1)

-- "`P` + 16 hex"
abbrev pub PAndSixteen : List ℕ → Type 0
PAndSixteen cs = (hex : List ℕ) × (cs ≡ code "P" ∷ hex) × (length hex ≡ 16) × (hexes hex ≡ 16)

-- 00 exactly under the condition, otherwise 15
abbrev pub Else15 : Said ℕ → Type 0 → Type 0
Else15 said condition = ((said.number ≡ 0) ↔ condition) × ((condition → ⊥) → said.number ≡ 15)

-- a validation block is made exactly of such data, whatever the account
abbrev pub ValidationExactly : Type 0
ValidationExactly = (validation account digits : List ℕ) (room : ℕ) → account_of account ≡ done digits → 8 ≤ room
    → Else15 (quietly (validation_block validation account room)) (ElevenAndN validation ⊎ PAndSixteen validation)
