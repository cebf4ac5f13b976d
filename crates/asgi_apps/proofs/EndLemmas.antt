-- What a task does to its end, poll after poll, and what it promises meanwhile.
use Rattle.std.proofs.Common.{◌≡◌, List, Option, Some, None, IsSomeAnd, refl, sym, ◌∙◌, subst}
use Rattle.asgi_types.specs.declared.scope.Kind.{Kind}
use Rattle.asgi_types.specs.declared.incoming.Incoming.{Incoming}
use Rattle.asgi_types.specs.declared.outgoing.Outgoing.{Outgoing}
use Rattle.asgi_pipes.specs.declared.ends.AppEnd.{Ghosts}
use Rattle.asgi_types.specs.declared.end_kind.EndKind.{EndKind}
use Rattle.asgi_apps.specs.declared.running.Lent.{Lent}
use Rattle.asgi_apps.specs.Ends.{GoesOn, IsWithin, MayGoOn}
use Rattle.asgi_pipes.proofs.PrefixLemmas.{prefix_self, prefix_trans}

module _ {E : Type 0} (ends : Ghosts E) where
  -- an end that nothing was done to went on
  pub goes_nowhere : (ended : Option EndKind) (e : E) → ends.ended e ≡ ended → GoesOn ends ended e e
  goes_nowhere ended e is = record {
    heard = prefix_self (ends.heard e);
    pulled = prefix_self (ends.pulled e);
    said = prefix_self (ends.said e);
    ended_is = is;
    kind = refl;
    facts = refl;
    tag = refl;
    ring = refl;
    capacity = refl;
    arrivals = refl;
    vacancies = refl;
  }

  pub goes_further : (mid last : Option EndKind) (a b c : E) → GoesOn ends mid a b → GoesOn ends last b c → GoesOn ends last a c
  goes_further mid last a b c x y = record {
    heard = prefix_trans (ends.heard a) (ends.heard b) (ends.heard c) x.heard y.heard;
    pulled = prefix_trans (ends.pulled a) (ends.pulled b) (ends.pulled c) x.pulled y.pulled;
    said = prefix_trans (ends.said a) (ends.said b) (ends.said c) x.said y.said;
    ended_is = y.ended_is;
    kind = y.kind ∙ x.kind;
    facts = y.facts ∙ x.facts;
    tag = y.tag ∙ x.tag;
    ring = y.ring ∙ x.ring;
    capacity = y.capacity ∙ x.capacity;
    arrivals = y.arrivals ∙ x.arrivals;
    vacancies = y.vacancies ∙ x.vacancies;
  }

  module _ {T : Type 0} (stands : T → Kind → List Incoming → List Outgoing → Type 0) (answers : T → List Incoming → List Outgoing → Option EndKind → Type 0) where
    -- from a task that may be polled to one that may be polled again
    pub record Polled (old new : Option (Lent T E)) : Type 0 where
      pub may : IsSomeAnd new (λ is. MayGoOn stands ends is.task is.app_end)
      pub follows : IsSomeAnd old (λ was. IsSomeAnd new (λ is. GoesOn ends None was.app_end is.app_end))
      pub within : IsSomeAnd old (λ was. IsSomeAnd new (λ is. IsWithin answers is.task was.task))

    pub not_polled : (lent : Option (Lent T E)) → IsSomeAnd lent (λ was. MayGoOn stands ends was.task was.app_end) → Polled lent lent
    not_polled (Some was) may = record {
      may = may;
      follows = goes_nowhere None was.app_end may.not_ended;
      within = λ heard said ended h. h;
    }
    not_polled None may = absurd may

    pub polled_again : (old mid new : Option (Lent T E)) → Polled old mid → Polled mid new → Polled old new
    polled_again (Some a) (Some b) (Some c) x y = record {
      may = y.may;
      follows = goes_further None None a.app_end b.app_end c.app_end x.follows y.follows;
      within = λ heard said ended h. x.within heard said ended (y.within heard said ended h);
    }
    polled_again (Some a) (Some b) None x y = absurd y.may
    polled_again (Some a) None new x y = absurd x.may
    polled_again None mid new x y = absurd x.follows

    -- asking whether something moved keeps the task
    pub asked : (old new : Option (Lent T E)) → IsSomeAnd new (λ is. MayGoOn stands ends is.task is.app_end)
        → IsSomeAnd old (λ was. IsSomeAnd new (λ is. (is.task ≡ was.task) × GoesOn ends None was.app_end is.app_end)) → Polled old new
    asked (Some a) (Some b) may same = record {
      may = may;
      follows = same.1;
      within = λ heard said ended h. subst (λ (t : T). answers t heard said ended) same.0 h;
    }
    asked (Some a) None may same = absurd may
    asked None new may same = absurd same

    -- what holds of the end that a task left holds of the one that is given back
    pub given_back : (old mid : Option (Lent T E)) (end : E) (P : Lent T E → E → Type 0) → IsSomeAnd old (λ was. IsSomeAnd mid (λ is. P was is.app_end))
        → IsSomeAnd mid (λ is. end ≡ is.app_end) → IsSomeAnd old (λ was. P was end)
    given_back (Some a) (Some b) end P x same = subst (P a) (sym same) x
    given_back (Some a) None end P x same = absurd x
    given_back None mid end P x same = absurd x

    -- how a task ended that was polled before
    pub ended_further : (old mid : Option (Lent T E)) (last : Option EndKind) (end : E) → Polled old mid → IsSomeAnd mid (λ is. GoesOn ends last is.app_end end)
        → IsSomeAnd old (λ was. GoesOn ends last was.app_end end)
    ended_further (Some a) (Some b) last end x y = goes_further None last a.app_end b.app_end end x.follows y
    ended_further (Some a) None last end x y = absurd y
    ended_further None mid last end x y = absurd x.follows

    pub answered_further : (old mid : Option (Lent T E)) (heard : List Incoming) (said : List Outgoing) (ended : Option EndKind) → Polled old mid
        → IsSomeAnd mid (λ is. answers is.task heard said ended) → IsSomeAnd old (λ was. answers was.task heard said ended)
    answered_further (Some a) (Some b) heard said ended x y = x.within heard said ended y
    answered_further (Some a) None heard said ended x y = absurd y
    answered_further None mid heard said ended x y = absurd x.follows

    -- a running task has kept its promise
    pub so_far : (keeps : (task : T) (kind : Kind) (heard : List Incoming) (said : List Outgoing) → stands task kind heard said → answers task heard said None)
        (lent : Option (Lent T E)) (end : E) → IsSomeAnd lent (λ was. MayGoOn stands ends was.task was.app_end)
        → IsSomeAnd lent (λ was. (ends.heard end ≡ ends.heard was.app_end) × (ends.said end ≡ ends.said was.app_end))
        → IsSomeAnd lent (λ was. answers was.task (ends.heard end) (ends.said end) None)
    so_far keeps (Some was) end may same =
        let kept = keeps was.task _ _ _ may.stands_for in
        subst (λ heard. answers was.task heard (ends.said end) None) (sym same.0)
        (subst (λ said. answers was.task (ends.heard was.app_end) said None) (sym same.1) kept)
    so_far keeps None end may same = absurd may
