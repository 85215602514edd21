-- 901 comes first.
-- Assumes nothing.
use mathlib.Core.Path.{refl}
use borrow.Author.Tests.{lt-leb}
use Rattle.blockcalls.specs.BlockCalls.{read_block, write_block}
use Rattle.translation.specs.Translation.{translate_block}
use Rattle.claims_blocks.specs.Rooms.{RoomFirst}

pub room_first : RoomFirst
unfolding read_block write_block translate_block
room_first = (
  λ code block account room short. rw (lt-leb 12 room short) (refl, refl),
  λ code pin account fill room short. rw (lt-leb 8 room short) (refl, refl),
  λ restricted from to block account fill room short. rw (lt-leb 8 room short) (refl, refl),
)
