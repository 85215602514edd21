-- Fields 1 to 3 and 11: the key type, the two keys and the LMK id.
use Rattle.std.specs.Prelude.{ℕ, ◌+◌, ◌≤◌, true, List, [], ◌∷◌, ◌++◌, ◌≡◌, length}
use Rattle.alphabet.specs.Alphabet.{all_of}
use Rattle.alphabet.specs.declared.Class.TheVariants.{CapitalHex, Printable}
use Rattle.texts.specs.Characters.{printed, OneOf}
use Rattle.texts.specs.Texts.{Run, Within, as_two_digits, as_four_digits, Optional, absent, present, optional_text}

-- field 1: "Key type, 3 characters: 001, 002 or FFF"
pub data KeyType : Type 0 where
  is001 is002 isFFF : KeyType

-- field 1's three characters
abbrev pub type_text : KeyType → List ℕ
type_text is001 = printed "001"
type_text is002 = printed "002"
type_text isFFF = printed "FFF"

-- what a key block may say in "Bytes 5-6 are usage, 7 algorithm, 8 mode"; algorithms and modes are codes of one letter each
pub record KeyRule : Type 0 where
  pub usages : List (List ℕ)
  pub algorithms : List ℕ
  pub modes : List ℕ

-- "PIN key: P0, 71 or 72; T; B, D or N"
abbrev pub pin_key_rule : KeyRule
pin_key_rule = record {
  usages = printed "P0" ∷ (printed "71" ∷ (printed "72" ∷ []));
  algorithms = printed "T";
  modes = printed "BDN";
}

-- "PVK: V1; T; C, G or N"
abbrev pub pvk_rule : KeyRule
pvk_rule = record { usages = printed "V1" ∷ []; algorithms = printed "T"; modes = printed "CGN" }

-- the PIN key of DA is a terminal's, P0 or 71, and that of EA a zone's, P0 or 72; T; B, D or N
abbrev pub terminal_key_rule : KeyRule
terminal_key_rule = record { usages = printed "P0" ∷ (printed "71" ∷ []); algorithms = printed "T"; modes = printed "BDN" }

abbrev pub zone_key_rule : KeyRule
zone_key_rule = record { usages = printed "P0" ∷ (printed "72" ∷ []); algorithms = printed "T"; modes = printed "BDN" }

-- the PVK of DA and EA: V1; T; C, V or N
abbrev pub verifying_pvk_rule : KeyRule
verifying_pvk_rule = record { usages = printed "V1" ∷ []; algorithms = printed "T"; modes = printed "CVN" }

-- the parts of a key block but its length; version, algorithm and mode are character codes, the id is a number
pub record KeyBlock : Type 0 where
  pub version : ℕ
  pub usage : List ℕ
  pub algorithm : ℕ
  pub mode : ℕ
  pub unjudged : List ℕ
  pub id : ℕ
  pub tail : List ℕ

-- the length, "counted from the version byte": bytes 0 to 15, the last two "14-15 LMK id", and the tail. So the least is 0016
abbrev pub block_size : KeyBlock → ℕ
block_size k = 16 + length k.tail

-- "version", "four digits of length"; "Bytes 5-6 are usage, 7 algorithm, 8 mode", "9 to 13", "14-15 LMK id"; the tail
abbrev pub block_text : KeyBlock → List ℕ
block_text k =
    k.version ∷ (as_four_digits (block_size k) ++ (k.usage ++ (k.algorithm ∷ (k.mode ∷
    (k.unjudged ++ (as_two_digits k.id ++ k.tail))))))

-- an LMK id, "`00` to `09`"
abbrev pub IsId : ℕ → Type 0
IsId v = Within 0 9 v

-- "version `0` or `1`", length to "0512", "then printable characters to that length"; usage, algorithm and mode of the rule. "Bytes 9 to
-- 13 are not judged" but for being printable
pub record IsBlock (rule : KeyRule) (k : KeyBlock) : Type 0 where
  pub version : OneOf k.version (printed "01")
  pub size : block_size k ≤ 512
  pub usage : OneOf k.usage rule.usages
  pub algorithm : OneOf k.algorithm rule.algorithms
  pub mode : OneOf k.mode rule.modes
  pub unjudged : Run Printable 5 k.unjudged
  pub id : IsId k.id
  pub tail : all_of Printable k.tail ≡ true

-- fields 2 and 3: the characters of a bare key, which has no letter, those behind `U`, those behind `T`, or the key block behind `S`
pub data Key : Type 0 where
  bare double triple : List ℕ → Key
  block : KeyBlock → Key

-- its letter, where it has one
abbrev pub letter : Key → List ℕ
letter (bare cs) = []
letter (double cs) = printed "U"
letter (triple cs) = printed "T"
letter (block k) = printed "S"

-- what stands behind its letter
abbrev pub behind_letter : Key → List ℕ
behind_letter (bare cs) = cs
behind_letter (double cs) = cs
behind_letter (triple cs) = cs
behind_letter (block k) = block_text k

-- a key with its letter
abbrev pub key_text : Key → List ℕ
key_text k = letter k ++ behind_letter k

-- "`U` + 32 or `T` + 48 hex characters", or a key block of the rule; a bare key of 32 is no type's
abbrev pub IsKey : KeyRule → Key → Type 0
IsKey rule (bare cs) = Run CapitalHex 32 cs
IsKey rule (double cs) = Run CapitalHex 32 cs
IsKey rule (triple cs) = Run CapitalHex 48 cs
IsKey rule (block k) = IsBlock rule k

-- "Types 001 and 002 want `U` […] or `T` […] in both; FFF wants `S` in both"
abbrev pub wanted : KeyType → List (List ℕ)
wanted is001 = printed "U" ∷ (printed "T" ∷ [])
wanted is002 = printed "U" ∷ (printed "T" ∷ [])
wanted isFFF = printed "S" ∷ []

-- so a key, by its letter
abbrev pub Wants : KeyType → Key → Type 0
Wants t k = OneOf (letter k) (wanted t)

-- where no key type stands before a key, as in DA and EA, it goes by its own letter
abbrev pub key_letters : List (List ℕ)
key_letters = printed "U" ∷ (printed "T" ∷ (printed "S" ∷ []))

abbrev pub HasLetter : Key → Type 0
HasLetter k = OneOf (letter k) key_letters

-- the "LMK ids present" in a key field: a key block's
abbrev pub key_ids : Key → List ℕ
key_ids (bare cs) = []
key_ids (double cs) = []
key_ids (triple cs) = []
key_ids (block k) = k.id ∷ []

-- field 11: "Optional `%` and LMK id"
abbrev pub mark_of_id : List ℕ
mark_of_id = printed "%"

-- nothing, or its mark and the id in two digits
abbrev pub id_text : Optional ℕ → List ℕ
id_text v = optional_text mark_of_id as_two_digits v

-- field 11's id, where it is there
abbrev pub own_ids : Optional ℕ → List ℕ
own_ids absent = []
own_ids (present v) = v ∷ []

-- all numbers of a list are equal: "must all agree"
abbrev pub AllSame : List ℕ → Type 0
AllSame [] = Unit {0}
AllSame (v ∷ []) = Unit {0}
AllSame (v ∷ (w ∷ ws)) = (v ≡ w) × AllSame (w ∷ ws)
