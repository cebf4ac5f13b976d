-- What a seat has to do with a desk, and what it knows.
use Rattle.std.specs.Prelude.{◌≡◌}
use Rattle.crossbeam_channel.specs.declared.flavors.array.Rows.{Rows}
use Rattle.crossbeam_channel.specs.declared.flavors.array.Doing.{Doing}
use Rattle.crossbeam_channel.specs.declared.flavors.array.Key.{Key}
use Rattle.crossbeam_channel.specs.declared.flavors.array.ruled.Sending.{Sending}
use Rattle.crossbeam_channel.specs.declared.flavors.array.ruled.Receiving.{Receiving}
use Rattle.atomic_table.specs.declared.badge.Badge.{Badge}
use Rattle.crossbeam_channel.specs.Claims.{Pass, view, IsSeatAt}
use Rattle.crossbeam_channel.specs.Ends.{sends_on, receives_on}
use Rattle.asgi_desk.specs.declared.desk.Ends.{Ends}

-- the seat is one of this desk, both ends of which are those of one channel
abbrev pub IsSeatOf : {X V Q M L A B : Type 0} → Ends (Sending (Rows (Badge (Key X)) (Doing X V) Q M (Key X) L A) B) (Receiving (Rows (Badge (Key X)) (Doing X V) Q M (Key X) L A) B) → Pass X V → Type 0
IsSeatOf d s = IsSeatAt (sends_on d.to) s × (receives_on d.from ≡ sends_on d.to)

-- what a seat knows
abbrev pub knows : {X V : Type 0} → Pass X V → V
knows s = view s
