-- The tries of a write or of a flush.
use Rattle.std.proofs.Common.{◌≡◌, ℕ, zero, suc, ◌+◌, ◌<◌, true, List, [], ◌∷◌, ◌++◌, refl, sym, ap, ◌∙◌, subst, append_assoc, length-append, arith, Result, Err, Option, Some, None}
use Rattle.std.specs.Prelude.{All, map}
use Rattle.std.specs.Io.KnownBytes.{Keeps}
use Rattle.std.specs.IoError.{error_kind}
use Rattle.std.specs.declared.io.Error.{Error}
use Rattle.std.specs.declared.io.ErrorKind.TheVariants.{TimedOut}
use Rattle.std.proofs.lemmas.List.{append-nil, map-append}
use Rattle.std.proofs.lemmas.List.Elements.{All-append}
use Rattle.asgi_io.specs.Answers.{passes}
use Rattle.asgi_ws.specs.Streams.{StreamCall, Adds, FailsWith}
use Rattle.asgi_ws.specs.private.Taps.{tries, IsTransient, Pauses, Tries, Returned, GaveUp}

pub adds_none : (before : Option (List StreamCall)) → Adds before before []
adds_none None = tt
adds_none (Some calls) = sym (append-nil calls)

pub adds_more : (a b c : Option (List StreamCall)) (xs ys : List StreamCall) → Adds a b xs → Adds b c ys → Adds a c (xs ++ ys)
adds_more None b c xs ys one two = tt
adds_more (Some old) None c xs ys one two = absurd one
adds_more (Some old) (Some now) None xs ys one two = absurd two
adds_more (Some old) (Some now) (Some new) xs ys one two = two ∙ ap (λ (l : List StreamCall). l ++ ys) one ∙ append_assoc old xs ys

pub keeps_more : (a b c : Option (List ℕ)) → Keeps a b → Keeps b c → Keeps a c
keeps_more None b c one two = tt
keeps_more (Some xs) None c one two = absurd one
keeps_more (Some xs) (Some ys) None one two = absurd two
keeps_more (Some xs) (Some ys) (Some zs) one two = two ∙ one

one_error : (e : Error) → IsTransient e → All IsTransient (e ∷ [])
one_error e is zero d less = is
one_error e is (suc k) d less = absurd (omega (arith, less))

module _ {A : Type 0} where
  pub no_pause : (call : Result A Error → StreamCall) (before : Option (List StreamCall)) → Pauses call before before 0
  no_pause call before = record { errors = []; each = λ k d less. absurd (omega (arith, less)); count = refl; told = adds_none before }

  -- one more try, whose error is transient
  pub pause_more : (call : Result A Error → StreamCall) (before now after : Option (List StreamCall)) (n : ℕ) (given : Result A Error) (e : Error)
      → Pauses call before now n → Adds now after (call given ∷ []) → given ≡ Err e → true ≡ passes (error_kind e) → Pauses call before after (n + 1)
  pause_more call before now after n given e paused told is passing =
      let errors : List Error = paused.errors in
      let one : Adds now after (call (Err e) ∷ []) = rw (sym is) told in
      record {
        errors = errors ++ e ∷ [];
        each = All-append IsTransient errors (e ∷ []) paused.each (one_error e (sym passing));
        count = length-append errors (e ∷ []) ∙ ap (λ (k : ℕ). k + 1) paused.count;
        told = subst (λ (l : List StreamCall). Adds before after l) (sym (map-append (λ (x : Error). call (Err x)) errors (e ∷ [])))
            (adds_more before now after (map (λ (x : Error). call (Err x)) errors) (call (Err e) ∷ []) paused.told one);
      }

  -- the last try
  pub tried : (call : Result A Error → StreamCall) (before now after : Option (List StreamCall)) (n : ℕ) (given result : Result A Error)
      → Pauses call before now n → n < tries → Adds now after (call given ∷ []) → given ≡ result → Tries call before after result
  tried call before now after n given result paused few told is =
      Returned n few now paused (subst (λ (r : Result A Error). Adds now after (call r ∷ [])) is told)

  -- no try is left
  pub given_up : (call : Result A Error → StreamCall) (before now : Option (List StreamCall)) (n : ℕ) (result : Result A Error)
      → Pauses call before now n → n ≡ tries → FailsWith TimedOut result → Tries call before now result
  given_up call before now n result paused all late = GaveUp (subst (λ (k : ℕ). Pauses call before now k) all paused) late
