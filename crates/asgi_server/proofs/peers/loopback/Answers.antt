use Rattle.std.proofs.Common.{◌≡◌, [], ◌∷◌, refl, subst, sym}
use Rattle.std.specs.Net.Addr.{IsV4And, ipv4_octets}
use Rattle.asgi_server.proofs.peers.loopback.Goals as goal

pub returns : goal.returns
returns c = (subst (λ a. IsV4And a (λ ip. ipv4_octets ip ≡ 127 ∷ 0 ∷ 0 ∷ 1 ∷ [])) (sym c.from.ensures.0) refl, c.from.ensures.1.0)
