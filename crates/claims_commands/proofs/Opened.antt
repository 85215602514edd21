-- What the calls come to by the tests before the fields: the room, and the frame.
-- Assumes nothing.
use Prim.Native.Nat.{ℕ, ◌+◌, ◌≤◌, ◌<◌}
use mathlib.Core.Path.{◌≡◌}
use mathlib.Core.List.{List}
use mathlib.Core.Bool.{Bool, true, false}
use lib.ListN.{drop}
use borrow.Author.Tests.{lt-leb, le-leb}
use Rattle.numbers.specs.Numbers.{refused}
use Rattle.numbers.specs.Promise.{quietly}
use Rattle.numbers.specs.declared.Refusal.TheVariants.{Room901, Frame902}
use Rattle.settings.specs.declared.Settings.{Settings}
use Rattle.frame.specs.Frame.{is_framed, code_of}
use Rattle.fields.specs.Fields.{heard}
use Rattle.responses.specs.Responses.{responding}
use Rattle.commands.specs.Commands.{ask_by, asking, asked, answered, commanded}

-- ---- the asking call

module _ (settings : Settings) (s : List ℕ) (room : ℕ) where
  pub asked_902 : 8 ≤ room → is_framed settings.header s ≡ false → asked settings s room ≡ refused Frame902
  unfolding asking
  asked_902 r f = rw (le-leb 8 room r, f)

  pub asked_framed : 8 ≤ room → is_framed settings.header s ≡ true → asked settings s room ≡ heard (ask_by (code_of (drop settings.header s)) settings s (settings.header + 2))
  unfolding asking
  asked_framed r f = rw (le-leb 8 room r, f)

-- ---- the answering call

module _ (settings : Settings) (g h : Bool) (s block enciphered : List ℕ) (room : ℕ) where
  pub answered_901 : room < 65 → answered settings g h s block enciphered room ≡ quietly (refused Room901)
  unfolding answered
  answered_901 r = rw (lt-leb 65 room r)

  pub answered_902 : 65 ≤ room → is_framed settings.header s ≡ false → answered settings g h s block enciphered room ≡ quietly (refused Frame902)
  unfolding answered
  answered_902 r f = rw (le-leb 65 room r, f)

  pub answered_framed : 65 ≤ room → is_framed settings.header s ≡ true → answered settings g h s block enciphered room ≡ responding settings.header s (heard (commanded settings g h s block enciphered settings.header))
  unfolding answered
  answered_framed r f = rw (le-leb 65 room r, f)
