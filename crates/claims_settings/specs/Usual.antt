-- Settings as the server is handed them and hands them in: "0 is No, anything else Yes".
use Rattle.std.specs.Prelude.{ℕ, suc, ◌≡◌, Bool, true, false}
use Rattle.settings.specs.Settings.{usually}
use Rattle.settings.specs.declared.Settings.{Settings}
use Rattle.face.specs.Face.{settings_of, face_of}
use Rattle.face.specs.declared.FaceSettings.{FaceSettings}

-- what `qg_usual` answers, in numbers
abbrev pub UsualShown : Type 0
UsualShown = face_of usually ≡ record { header = 4; restricted = 1; variable = 0 }

-- settings of the box, and those of the server, by their members
abbrev pub inside : ℕ → Bool → Bool → Settings
inside header restricted variable = record { header = header; restricted = restricted; variable = variable }

abbrev pub outside : ℕ → ℕ → ℕ → FaceSettings
outside header restricted variable = record { header = header; restricted = restricted; variable = variable }

-- each flag is handed out in its place, as 1 or 0
abbrev pub FlagsShown : Type 0
FlagsShown = (header : ℕ)
    → (face_of (inside header true true) ≡ outside header 1 1)
    × (face_of (inside header true false) ≡ outside header 1 0)
    × (face_of (inside header false true) ≡ outside header 0 1)
    × (face_of (inside header false false) ≡ outside header 0 0)

-- and taken from its place, any value but 0 as Yes
abbrev pub FlagsTaken : Type 0
FlagsTaken = (header m n : ℕ)
    → (settings_of (outside header (suc m) (suc n)) ≡ inside header true true)
    × (settings_of (outside header (suc m) 0) ≡ inside header true false)
    × (settings_of (outside header 0 (suc n)) ≡ inside header false true)
    × (settings_of (outside header 0 0) ≡ inside header false false)
