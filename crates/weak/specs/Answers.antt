-- What the search asks, and what it answers.
use Rattle.std.specs.Prelude.{ℕ, zero, suc, ◌+◌, ◌*◌, ◌≤◌, ◌≡◌, List, Bool, true, false, ◌||◌, length, take, drop}
use Rattle.alphabet.specs.Alphabet.{all_of, begins}
use Rattle.alphabet.specs.declared.Class.TheVariants.{Digit}
use Rattle.weak.specs.declared.Weak.{Weak}

-- a weak list that lies in the command, and has digits
pub record Lies (w : Weak) (s : List ℕ) : Type 0 where
  pub short : w.length ≤ 12
  pub few : w.count ≤ 99
  pub inside : w.list + w.count * w.length ≤ length s
  pub digits : all_of Digit (take (w.count * w.length) (drop w.list s)) ≡ true

-- a text stands at one of so many places, each so many characters behind the one before
unfoldable pub lists : List ℕ → ℕ → ℕ → List ℕ → Bool
lists text zero n cs = false
lists text (suc k) n cs = begins text cs || lists text k n (drop n cs)
