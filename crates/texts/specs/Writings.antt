-- How the kinds of fields are written, with what the readers read of each.
use Rattle.std.specs.Prelude.{ℕ, ◌≡◌, ◌⊎◌, List, [], length}
use Rattle.alphabet.specs.declared.Class.{Class}
use Rattle.texts.specs.Texts.{Run, Within, as_two_digits, mark_of_trailer, IsTrailer}
use Rattle.texts.specs.Exact.{Writing}
use Rattle.texts.specs.Joining.{optional}

-- so many characters of a class; how many there are is read
abbrev pub runs : Class → ℕ → Writing ℕ
runs class n = record { Part = List ℕ; fine = λ cs _. Run class n cs; text = λ cs. cs; value = λ _. n }

-- a number from low to high, in two digits
abbrev pub numbers : ℕ → ℕ → Writing ℕ
numbers low high = record { Part = ℕ; fine = λ v _. Within low high v; text = as_two_digits; value = λ v. v }

-- a trailer takes what is left, or as much as it may have; how many characters there are behind its mark is read
abbrev pub trailing : Writing ℕ
trailing = record { Part = List ℕ; fine = λ cs rest. IsTrailer cs × ((rest ≡ []) ⊎ (length cs ≡ 32)); text = λ cs. cs; value = length }

-- or there is none
abbrev pub trailers : Writing ℕ
trailers = optional mark_of_trailer trailing 0
