-- What each limit of a connection may be.
use Rattle.std.specs.Prelude.{◌≡◌, ℕ, ◌≤◌, ◌^◌}
use Rattle.asgi_types.specs.declared.limits.Limits.{Limits}

-- each limit lies in its range
pub record AreInRange (max_head max_headers max_body block ring idle_turns turns : ℕ) : Type 0 where
  pub head : (64 ≤ max_head) × (max_head ≤ 65535)
  pub headers : (1 ≤ max_headers) × (max_headers ≤ 128)
  pub body : max_body ≤ 2 ^ 40
  pub blocks : (1 ≤ block) × (block ≤ 65536)
  pub rings : (2 ≤ ring) × (ring ≤ 1024)
  pub idle : 1 ≤ idle_turns
  pub all_turns : (1 ≤ turns) × (turns ≤ 2 ^ 48)

-- the limits are these
pub record AreLimits (limits : Limits) (max_head max_headers max_body block ring idle_turns turns : ℕ) : Type 0 where
  pub head : limits.max_head ≡ max_head
  pub headers : limits.max_headers ≡ max_headers
  pub body : limits.max_body ≡ max_body
  pub blocks : limits.block ≡ block
  pub rings : limits.ring ≡ ring
  pub idle : limits.idle_turns ≡ idle_turns
  pub all_turns : limits.turns ≡ turns
