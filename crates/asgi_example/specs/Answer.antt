-- What the example sends: 204, with no content (RFC 9110, section 15.3.5).
use Rattle.std.specs.Prelude.{List, [], ◌∷◌, false}
use Rattle.asgi_types.specs.declared.outgoing.Outgoing.{Outgoing}
use Rattle.asgi_types.specs.declared.outgoing.Outgoing.TheVariants.{ResponseStart, ResponseBody}

abbrev pub no_content : List Outgoing
no_content = ResponseStart 204 [] false ∷ ResponseBody [] false ∷ []
