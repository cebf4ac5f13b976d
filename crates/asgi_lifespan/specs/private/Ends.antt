-- The application's end of a plain pair, by what went through it: words of private functions.
use Rattle.std.specs.Prelude.{◌≡◌, ◌≤◌, false, [], None}
use Rattle.asgi_types.specs.declared.scope.Kind.TheVariants as kind
use Rattle.asgi_pipes.specs.declared.plain_app.PlainApp.{PlainApp}
use Rattle.asgi_pipes.specs.declared.plain_conn.PlainConn.{PlainConn}
use Rattle.asgi_pipes.specs.PlainPairs.{IsPlainPair}
use Rattle.asgi_pipes.specs.contracts.plain_app.PlainAppAppEnd.TheImpl as app_end
use Rattle.asgi_pipes.specs.contracts.plain_conn.PlainConnConnEnd.TheImpl as conn_end
use Rattle.asgi_lifespan.specs.Facts.{no_request}

-- nothing went through it, and it is the end of the same pair and scope
pub record IsSameEnd (old new : PlainApp) : Type 0 where
  pub heard : app_end.ghosts.heard new ≡ app_end.ghosts.heard old
  pub pulled : app_end.ghosts.pulled new ≡ app_end.ghosts.pulled old
  pub said : app_end.ghosts.said new ≡ app_end.ghosts.said old
  pub ended : app_end.ghosts.ended new ≡ app_end.ghosts.ended old
  pub kind : app_end.ghosts.kind new ≡ app_end.ghosts.kind old
  pub facts : app_end.ghosts.facts new ≡ app_end.ghosts.facts old
  pub tag : app_end.ghosts.tag new ≡ app_end.ghosts.tag old
  pub ring : app_end.ghosts.ring new ≡ app_end.ghosts.ring old
  pub capacity : app_end.ghosts.capacity new ≡ app_end.ghosts.capacity old

-- the ends of a new pair in a lifespan scope, with a place for an event
pub record AreNew (conn : PlainConn) (app : PlainApp) : Type 0 where
  pub pair : IsPlainPair conn app
  pub offered : conn_end.ghosts.offered conn ≡ []
  pub got : conn_end.ghosts.got conn ≡ []
  pub waits_out : conn_end.ghosts.seen conn ≡ []
  pub open_conn : conn_end.ghosts.is_broken conn ≡ false
  pub places : 2 ≤ conn_end.ghosts.ring conn
  pub room : conn_end.ghosts.room conn ≡ conn_end.ghosts.ring conn
  pub heard : app_end.ghosts.heard app ≡ []
  pub pulled : app_end.ghosts.pulled app ≡ []
  pub waits_in : app_end.ghosts.seen app ≡ []
  pub said : app_end.ghosts.said app ≡ []
  pub open_app : app_end.ghosts.ended app ≡ None
  pub kind_is : app_end.ghosts.kind app ≡ kind.Lifespan
  pub facts : app_end.ghosts.facts app ≡ no_request
