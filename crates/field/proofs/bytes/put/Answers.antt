-- What bytes::put ensures, by the laws of Putting.
use Rattle.field.proofs.Putting.{put_fitting, put_beyond, put_long}
use Rattle.field.proofs.bytes.put.Goals as goal
use Rattle.field.proofs.bytes.put.Goals.{else-at-room-via-then-at-room+else-text-room, else-at-room-via-else-at-room}

pub returns-then-text-room : goal.returns-then-text-room
returns-then-text-room c = search put_fitting depth 2

pub returns-else-at-room : goal.returns-else-at-room
returns-else-at-room c =
    elim c.else-at-room.branch [ else-at-room-via-then-at-room+else-text-room w ↦ search put_long depth 2 | else-at-room-via-else-at-room w ↦ search put_beyond depth 2 ]
