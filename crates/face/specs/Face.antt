-- What the server hands over and gets. Settings: a flag is a byte, and every value of it has an answer.
use Rattle.std.specs.Prelude.{ℕ, Bool, true, false, not, eqb}
use Rattle.numbers.specs.declared.Reply.{Reply}
use Rattle.settings.specs.declared.Settings.{Settings}
use Rattle.fields.specs.declared.Pointer.{Pointer}
use Rattle.face.specs.declared.FaceReply.{FaceReply}
use Rattle.face.specs.declared.FaceSettings.{FaceSettings}

-- 0 is No, anything else Yes
abbrev pub yes? : ℕ → Bool
yes? flag = not (eqb flag 0)

-- the box's settings
abbrev pub settings_of : FaceSettings → Settings
settings_of s = record { header = s.header; restricted = yes? s.restricted; variable = yes? s.variable }

-- and back: what the server is handed
abbrev pub flag_of : Bool → ℕ
flag_of true = 1
flag_of false = 0

abbrev pub face_of : Settings → FaceSettings
face_of s = record { header = s.header; restricted = flag_of s.restricted; variable = flag_of s.variable }

-- ---- a reply: what every call answers, and beside it what the server is pointed at

abbrev pub reply_in : FaceReply → Reply
reply_in r = record { number = r.number; written = r.written }

abbrev pub pointer_in : FaceReply → Pointer
pointer_in r = record { place = r.place; field = r.field }
