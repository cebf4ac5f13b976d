-- A task of one of two kinds: it stands as the task that it holds, and promises what that does.
use Rattle.std.specs.Prelude.{List, Option, None}
use Rattle.asgi_types.specs.declared.scope.Kind.{Kind}
use Rattle.asgi_types.specs.declared.incoming.Incoming.{Incoming}
use Rattle.asgi_types.specs.declared.outgoing.Outgoing.{Outgoing}
use Rattle.asgi_types.specs.declared.end_kind.EndKind.{EndKind}
use Rattle.asgi_talks.specs.declared.either.Either.{Either}
use Rattle.asgi_talks.specs.declared.either.Either.TheVariants as task

module _ {T U : Type 0} where
  abbrev pub EitherStands : (T → Kind → List Incoming → List Outgoing → Type 0) → (U → Kind → List Incoming → List Outgoing → Type 0) → Either T U
      → Kind → List Incoming → List Outgoing → Type 0
  EitherStands first second (task.First t) kind heard said = first t kind heard said
  EitherStands first second (task.Second u) kind heard said = second u kind heard said

  abbrev pub EitherAnswers : (T → List Incoming → List Outgoing → Option EndKind → Type 0) → (U → List Incoming → List Outgoing → Option EndKind → Type 0) → Either T U
      → List Incoming → List Outgoing → Option EndKind → Type 0
  EitherAnswers first second (task.First t) heard said ended = first t heard said ended
  EitherAnswers first second (task.Second u) heard said ended = second u heard said ended

  -- a running task has kept its promise
  pub either_keeps : (stands : T → Kind → List Incoming → List Outgoing → Type 0) (answers : T → List Incoming → List Outgoing → Option EndKind → Type 0)
      (stands2 : U → Kind → List Incoming → List Outgoing → Type 0) (answers2 : U → List Incoming → List Outgoing → Option EndKind → Type 0)
      → ((t : T) (kind : Kind) (heard : List Incoming) (said : List Outgoing) → stands t kind heard said → answers t heard said None)
      → ((u : U) (kind : Kind) (heard : List Incoming) (said : List Outgoing) → stands2 u kind heard said → answers2 u heard said None)
      → (it : Either T U) (kind : Kind) (heard : List Incoming) (said : List Outgoing) → EitherStands stands stands2 it kind heard said → EitherAnswers answers answers2 it heard said None
  either_keeps stands answers stands2 answers2 keeps keeps2 (task.First t) kind heard said h = keeps t kind heard said h
  either_keeps stands answers stands2 answers2 keeps keeps2 (task.Second u) kind heard said h = keeps2 u kind heard said h
