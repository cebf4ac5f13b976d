-- What identifies the two rings of an exchange.
use denote.RawPtr.{Ptr}
use Rattle.std.specs.declared.alloc.Global.{Global}
use Rattle.rtrb.specs.declared.end.End.{End}
use Rattle.rtrb.specs.Shared.{Names as Numbers}

pub record Ring : Type 0 where
  pub words : Ptr
  pub slots : Ptr
  pub numbers : Numbers
  pub heap : Global

pub record Names : Type 0 where
  pub inward : Ring
  pub outward : Ring

abbrev pub ring_of : {T P : Type 0} → End T Global P → Ring
ring_of e = record { words = e.words; slots = e.slots; numbers = e.names; heap = e.heap }

abbrev pub names_of : {T U P Q : Type 0} → End T Global P → End U Global Q → Names
names_of inward outward = record { inward = ring_of inward; outward = ring_of outward }
