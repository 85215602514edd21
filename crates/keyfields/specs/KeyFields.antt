-- Stages of commands: two keys; and a key type with the two keys that it wants. Each is told its first field's number, `which`.
use Rattle.std.specs.Prelude.{ℕ, ◌+◌, List}
use Rattle.fields.specs.Fields.{Stage, read, field}
use Rattle.uses.specs.declared.Use.{Use}
use Rattle.keys.specs.Keys.{key_type, key}
use Rattle.keys.specs.declared.Letters.{Letters}
use Rattle.keyfields.specs.declared.Keys.{Keys}

-- "PIN key, then […] PVK", each with letters of its own
unfoldable pub key_pair : ℕ → Letters → Use → Letters → Use → List ℕ → ℕ → Stage Keys
key_pair which letters₁ use₁ letters₂ use₂ s at₁ =
    field which (key letters₁ use₁) s at₁
    (λ lmk₁ at₂. field (which + 1) (key letters₂ use₂) s at₂
    (λ lmk₂ next. read (record { first = lmk₁; second = lmk₂; field = which + 1; place = at₂ }) next))

-- "1. Key type"; "2. PIN key, then 3. PVK"
unfoldable pub keys : ℕ → Use → Use → List ℕ → ℕ → Stage Keys
keys which use₁ use₂ s at₁ =
    field which key_type s at₁
    (λ letters at₂. key_pair (which + 1) letters use₁ letters use₂ s at₂)
