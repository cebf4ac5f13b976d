-- What identifies a pair of plain ends: what was carried between them, in both directions.
use Rattle.asgi_types.specs.declared.incoming.Incoming.{Incoming}
use Rattle.asgi_pipes.specs.declared.items.OutItem.{OutItem}
use Rattle.asgi_pipes.specs.Boxes.{Carriage}

pub record Carried : Type 0 where
  pub inward : Carriage Incoming
  pub outward : Carriage OutItem

abbrev pub carried : Carriage Incoming → Carriage OutItem → Carried
carried xs ys = record { inward = xs; outward = ys }
