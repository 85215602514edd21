-- What a key block must permit: which usages and modes, for what a key is for.
use Rattle.std.specs.Prelude.{ℕ, List, [], ◌∷◌, Bool, false, ◌&&◌, ◌||◌, get_or, drop, eqb}
use Rattle.alphabet.specs.Alphabet.{begins}
use Rattle.uses.specs.declared.Usages.{Usages}
use Rattle.uses.specs.declared.Usages.TheVariants.{P0Or71Or72, P0Or71, P0Or72, V1}
use Rattle.uses.specs.declared.Modes.{Modes}
use Rattle.uses.specs.declared.Modes.TheVariants.{BOrDOrN, COrGOrN, COrVOrN}
use Rattle.uses.specs.declared.Use.{Use}

-- ---- usages

-- `P0`, `71`, `72`, `V1`
abbrev pub usage_p0 : List ℕ
usage_p0 = 0x50 ∷ 0x30 ∷ []

abbrev pub usage71 : List ℕ
usage71 = 0x37 ∷ 0x31 ∷ []

abbrev pub usage72 : List ℕ
usage72 = 0x37 ∷ 0x32 ∷ []

abbrev pub usage_v1 : List ℕ
usage_v1 = 0x56 ∷ 0x31 ∷ []

-- the usages, one after the other
abbrev pub usages_in : Usages → List (List ℕ)
usages_in P0Or71Or72 = usage_p0 ∷ (usage71 ∷ (usage72 ∷ []))
usages_in P0Or71 = usage_p0 ∷ (usage71 ∷ [])
usages_in P0Or72 = usage_p0 ∷ (usage72 ∷ [])
usages_in V1 = usage_v1 ∷ []

-- ---- algorithm and modes

-- `T`
abbrev pub algorithm_t : ℕ
algorithm_t = 0x54

-- `B`, `C`, `D`, `G`, `N`, `V`
abbrev pub mode_b : ℕ
mode_b = 0x42

abbrev pub mode_c : ℕ
mode_c = 0x43

abbrev pub mode_d : ℕ
mode_d = 0x44

abbrev pub mode_g : ℕ
mode_g = 0x47

abbrev pub mode_n : ℕ
mode_n = 0x4E

abbrev pub mode_v : ℕ
mode_v = 0x56

-- the modes, one after the other
abbrev pub modes_in : Modes → List ℕ
modes_in BOrDOrN = mode_b ∷ mode_d ∷ mode_n ∷ []
modes_in COrGOrN = mode_c ∷ mode_g ∷ mode_n ∷ []
modes_in COrVOrN = mode_c ∷ mode_v ∷ mode_n ∷ []

-- ---- uses

-- "PIN key: P0, 71 or 72; T; B, D or N"
abbrev pub pin_key : Use
pin_key = record { usages = P0Or71Or72; modes = BOrDOrN }

-- "PVK: V1; T; C, G or N"
abbrev pub pvk : Use
pvk = record { usages = V1; modes = COrGOrN }

-- the PIN key of DA is a terminal's: P0 or 71; T; B, D or N. That of EA is a zone's: P0 or 72; T; B, D or N
abbrev pub terminal_key : Use
terminal_key = record { usages = P0Or71; modes = BOrDOrN }

abbrev pub zone_key : Use
zone_key = record { usages = P0Or72; modes = BOrDOrN }

-- the PVK of DA and EA verifies: V1; T; C, V or N
abbrev pub verifying_pvk : Use
verifying_pvk = record { usages = V1; modes = COrVOrN }

-- the characters begin with one of several texts
unfoldable pub begins_one : List (List ℕ) → List ℕ → Bool
begins_one [] cs = false
begins_one (t ∷ ts) cs = begins t cs || begins_one ts cs

-- a character is one of several
unfoldable pub is_one : List ℕ → ℕ → Bool
is_one [] c = false
is_one (d ∷ ds) c = eqb c d || is_one ds c

-- "Bytes 5-6 are usage, 7 algorithm, 8 mode"
unfoldable pub permits : Use → List ℕ → Bool
permits for cs =
    begins_one (usages_in for.usages) (drop 5 cs) && (eqb (get_or cs 7 0) algorithm_t && is_one (modes_in for.modes) (get_or cs 8 0))
