-- "Settings: header length 0 to 16 (usual 4); restricted formats, usual No; variable length offset, usual No." Request 5 of document 02
-- made the second Yes: "the setting's default turns from No to Yes".
use Rattle.std.specs.Prelude.{ℕ, Bool, true, false}
use Rattle.settings.specs.declared.Settings.{Settings}

-- the usual settings
abbrev pub usually : Settings
usually = record { header = 4; restricted = true; variable = false }

-- the greatest header length
abbrev pub longest_header : ℕ
longest_header = 16

-- the same settings with another header length
abbrev pub headed : Settings → ℕ → Settings
headed s h = record { header = h; restricted = s.restricted; variable = s.variable }

-- with restricted formats or without
abbrev pub restricted_to : Settings → Bool → Settings
restricted_to s r = record { header = s.header; restricted = r; variable = s.variable }

-- with offsets of variable length or without
abbrev pub variably : Settings → Bool → Settings
variably s v = record { header = s.header; restricted = s.restricted; variable = v }
