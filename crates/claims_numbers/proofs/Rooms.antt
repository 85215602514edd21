-- 901 comes first.
-- Assumes nothing.
use mathlib.Core.Path.{refl}
use borrow.Author.Tests.{lt-leb}
use Rattle.validation.specs.Validation.{validation_block}
use Rattle.naturals.specs.Naturals.{natural_pin}
use Rattle.offsets.specs.Offsets.{offset_judged, digits_judged, differences_of}
use Rattle.pvv.specs.Pvv.{pvv_input, pvv_made}
use Rattle.claims_numbers.specs.Rooms.{OffsetRoomFirst}

pub offset_room_first : OffsetRoomFirst
unfolding validation_block natural_pin offset_judged digits_judged differences_of pvv_input pvv_made
offset_room_first = (
  λ validation account room short. rw (lt-leb 8 room short) (refl, refl),
  λ n table enciphered room short. rw (lt-leb 12 room short) (refl, refl),
  λ variable code check block account table enciphered room short. rw (lt-leb 12 room short) (refl, refl),
  λ variable check pin natural room short. rw (lt-leb 12 room short) (refl, refl),
  λ variable check pin natural room short. rw (lt-leb 12 room short) (refl, refl),
  λ code index block account room short. rw (lt-leb 8 room short) (refl, refl),
  λ enciphered room short. rw (lt-leb 4 room short) (refl, refl),
)
