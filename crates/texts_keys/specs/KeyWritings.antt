-- How key types, keys and LMK ids are written, with what the readers read of each.
use Rattle.std.specs.Prelude.{ℕ, ◌≡◌, List, [], ◌∷◌, true, Option, Some, None}
use Rattle.uses.specs.Uses.{usages_in, modes_in}
use Rattle.uses.specs.declared.Use.{Use}
use Rattle.keys.specs.Keys.{only_u_or_t, only_s}
use Rattle.keys.specs.declared.Letters.{Letters}
use Rattle.texts.specs.Characters.{printed}
use Rattle.texts.specs.Texts.{as_two_digits}
use Rattle.texts.specs.Exact.{Writing}
use Rattle.texts.specs.Joining.{optional}
use Rattle.texts_keys.specs.KeyTexts.{KeyType, is001, is002, isFFF, type_text, KeyRule, KeyBlock, block_text, IsBlock, Key, bare, double, triple, block, key_text, IsKey, IsId, mark_of_id}

-- of a key type its letters are read
abbrev pub letters_of : KeyType → Letters
letters_of is001 = only_u_or_t
letters_of is002 = only_u_or_t
letters_of isFFF = only_s

abbrev pub types : Writing Letters
types = record { Part = KeyType; fine = λ _ _. Unit {0}; text = type_text; value = letters_of }

-- the rule of a use
abbrev pub rule_for : Use → KeyRule
rule_for for = record { usages = usages_in for.usages; algorithms = printed "T"; modes = modes_in for.modes }

-- of a key block its LMK id is read
abbrev pub blocks : Use → Writing (Option ℕ)
blocks for = record { Part = KeyBlock; fine = λ k _. IsBlock (rule_for for) k; text = block_text; value = λ k. Some k.id }

-- a key field admits a key by its letter
abbrev pub Admits : Letters → Key → Type 0
Admits letters (bare cs) = letters.bare ≡ true
Admits letters (double cs) = letters.double ≡ true
Admits letters (triple cs) = letters.triple ≡ true
Admits letters (block k) = letters.block ≡ true

-- of a key its LMK id is read, where it has one
abbrev pub lmk_of : Key → Option ℕ
lmk_of (bare cs) = None
lmk_of (double cs) = None
lmk_of (triple cs) = None
lmk_of (block k) = Some k.id

abbrev pub keyed : Letters → Use → Writing (Option ℕ)
keyed letters for = record { Part = Key; fine = λ k _. Admits letters k × IsKey (rule_for for) k; text = key_text; value = lmk_of }

-- an LMK id behind its mark, or none
abbrev pub ids : Writing (Option ℕ)
ids = optional mark_of_id (record { Part = ℕ; fine = λ v _. IsId v; text = as_two_digits; value = Some }) None

-- the id that was read, where one was
abbrev pub ids_read : Option ℕ → List ℕ
ids_read None = []
ids_read (Some v) = v ∷ []
