-- Each move keeps the rule of the channel.
use Rattle.std.proofs.Common.{◌≡◌, ◌≢◌, ℕ, zero, suc, ◌+◌, ◌-◌, ◌<◌, ◌≤◌, true, List, [], ◌∷◌, ◌++◌, length, set, refl, sym, ap, ◌∙◌, subst, ⊎_elim, append_assoc, append-nil, length-append, flat_map, arith}
use mathlib.Core.Option.{some, some-ne-none}
use lib.ListN.{get_elem?}
use Rattle.std.specs.List.Sorted.{IsPermutation}
use Rattle.std.proofs.lemmas.List.Sorted.{IsPermutation-refl, IsPermutation-sym, IsPermutation-trans, IsPermutation-append_left, length_permutation}
use Rattle.crossbeam_channel.specs.Fifo.{Pushes, Pops, Forks, Merges, Learns}
use Rattle.atomic_table.proofs.Lists.{at_set, at_snoc}
use Rattle.asgi_crew.specs.declared.channel.Mark.{Mark}
use Rattle.asgi_crew.specs.declared.channel.Mark.TheVariants.{Item, Stop}
use Rattle.asgi_crew.specs.declared.channel.Task.{Task}
use Rattle.asgi_crew.specs.declared.channel.Hand.{Hand}
use Rattle.asgi_crew.specs.private.Channel.{hand, gave, took, tasks, stops, is_ended, is_ordered, total, IsIdle, IsFair, Adds}
use Rattle.asgi_crew.proofs.Flat.{some_same, flat_more, flat_same, flat_both, flat_snoc, total_set, total_snoc, sole_flat, sole}

module _ {C N : Type 0} where
  tasks_append : (xs ys : List (Mark C N)) → tasks (xs ++ ys) ≡ tasks xs ++ tasks ys
  tasks_append [] ys = refl
  tasks_append (Item t ∷ xs) ys = ap (λ (l : List (ℕ × C)). (t.number, t.item) ∷ l) (tasks_append xs ys)
  tasks_append (Stop ∷ xs) ys = tasks_append xs ys

  stops_append : (xs ys : List (Mark C N)) → stops (xs ++ ys) ≡ stops xs + stops ys
  stops_append [] ys = omega arith
  stops_append (Item t ∷ xs) ys = stops_append xs ys
  stops_append (Stop ∷ xs) ys = let e = stops_append xs ys in omega arith

  -- if there is no stop, none stands before what comes next
  no_stop : (xs : List (Mark C N)) → stops xs ≡ 0 → (x : Mark C N) → is_ordered (xs ++ x ∷ []) ≡ true
  no_stop [] e (Item t) = refl
  no_stop [] e Stop = refl
  no_stop (Item t ∷ xs) e x = no_stop xs e x
  no_stop (Stop ∷ xs) e x = absurd (omega arith)

  ended_more : (xs : List (Mark C N)) → is_ended xs ≡ true → is_ended (xs ++ Stop ∷ []) ≡ true
  ended_more [] e = refl
  ended_more (Item t ∷ xs) e = cc
  ended_more (Stop ∷ xs) e = ended_more xs e

  ordered_more : (xs : List (Mark C N)) → is_ordered xs ≡ true → is_ordered (xs ++ Stop ∷ []) ≡ true
  ordered_more [] e = refl
  ordered_more (Item t ∷ xs) e = ordered_more xs e
  ordered_more (Stop ∷ xs) e = ended_more xs e

  ended_ordered : (xs : List (Mark C N)) → is_ended xs ≡ true → is_ordered xs ≡ true
  ended_ordered [] e = refl
  ended_ordered (Item t ∷ xs) e = cc
  ended_ordered (Stop ∷ xs) e = e

  -- stops alone are no items
  pub ended_none : (xs : List (Mark C N)) → is_ended xs ≡ true → tasks xs ≡ []
  ended_none [] e = refl
  ended_none (Item t ∷ xs) e = cc
  ended_none (Stop ∷ xs) e = ended_none xs e

module _ {C : Type 0} where
  idle_set : (views : List (Hand C)) (port : ℕ) (w : Hand C) → IsIdle w → ((j : ℕ) (v : Hand C) → get_elem? views j ≡ some v → IsIdle v)
      → (j : ℕ) (v : Hand C) → get_elem? (set views port w) j ≡ some v → IsIdle v
  idle_set views port w mine idle j u e = ⊎_elim
      (λ (x : (j ≡ port) × (w ≡ u)). subst IsIdle x.1 mine)
      (λ (x : (j ≢ port) × (get_elem? views j ≡ some u)). idle j u x.1) (at_set views port j w u e)

  idle_snoc : (views : List (Hand C)) (w : Hand C) → IsIdle w → ((j : ℕ) (v : Hand C) → get_elem? views j ≡ some v → IsIdle v)
      → (j : ℕ) (v : Hand C) → get_elem? (views ++ w ∷ []) j ≡ some v → IsIdle v
  idle_snoc views w mine idle j u e = ⊎_elim
      (λ (x : get_elem? views j ≡ some u). idle j u x)
      (λ (is : w ≡ u). subst IsIdle is mine) (at_snoc views w u j e)

  -- a pass with nothing
  idle_none : (parts gives : ℕ) → IsIdle {C = C} (hand parts gives [] [] 0 0)
  idle_none parts gives = record { gave_none = λ _. (refl, refl); took_none = λ _. (refl, refl) }

  -- what one pass took is among what all took
  among : (views : List (Hand C)) (port : ℕ) (v : Hand C) → get_elem? views port ≡ some v → length v.taken ≤ length (flat_map (λ u. u.taken) views)
  among [] port v at = absurd (some-ne-none v (sym at))
  among (x ∷ xs) zero v at = let e = ap (λ (u : Hand C). length u.taken) (some_same x v at) in omega (arith, length-append x.taken (flat_map (λ u. u.taken) xs))
  among (x ∷ xs) (suc j) v at = let e = among xs j v at in omega (arith, length-append x.taken (flat_map (λ u. u.taken) xs))

  one_idle : (w : Hand C) → IsIdle w → (j : ℕ) (v : Hand C) → get_elem? (w ∷ []) j ≡ some v → IsIdle v
  one_idle w mine zero v e = subst IsIdle (some_same w v e) mine
  one_idle w mine (suc j) v e = absurd (some-ne-none v (sym e))

module _ {C N : Type 0} where
  pub begins : IsFair {C = C} {N = N} [] (hand 64 1 [] [] 0 0 ∷ [])
  begins = record {
    parts = refl;
    gives = refl;
    each_item = IsPermutation-refl [];
    each_stop = refl;
    idle = one_idle (hand 64 1 [] [] 0 0) (idle_none 64 1);
    ordered = refl;
    ended = λ some_stop. refl;
  }

  -- the pass that may give has given all that was given
  sole_given : (items : List (Mark C N)) (views : List (Hand C)) (port : ℕ) (v : Hand C) → v.gives ≡ 1 → IsFair items views → get_elem? views port ≡ some v
      → (flat_map (λ u. u.given) views ≡ v.given) × (total (λ u. u.shut) views ≡ v.shut)
  sole_given items views port v may b at = (
    sole_flat (λ u. u.gives) (λ u. u.given) views port v at (b.gives ∙ sym may) (λ j u e none. ((b.idle j u e).gave_none none).0),
    sole (λ u. u.gives) (λ u. u.shut) views port v at (b.gives ∙ sym may) (λ j u e none. ((b.idle j u e).gave_none none).1),
  )

  pub gives_item : (n port : ℕ) (v : Hand C) (t : Task C N) → v.gives ≡ 1 → 0 < v.parts → v.shut ≡ 0 → Pushes IsFair n port v (Item t) (λ w. w ≡ gave v (Item t))
  gives_item n port v t may some_part none_shut items views room b at =
      let m : Mark C N = Item t in let w = gave v m in let x : List (ℕ × C) = (t.number, t.item) ∷ [] in
      let shut = (sole_given items views port v may b at).1 in
      let given : IsPermutation (flat_map (λ u. u.given) views ++ x) (flat_map (λ u. u.given) (set views port w)) = flat_more (λ u. u.given) views port v w x at refl in
      let taken : flat_map (λ u. u.taken) (set views port w) ≡ flat_map (λ u. u.taken) views = flat_same (λ u. u.taken) views port v w at refl in
      let more : (flat_map (λ u. u.taken) views ++ tasks items) ++ x ≡ flat_map (λ u. u.taken) (set views port w) ++ tasks (items ++ m ∷ []) =
      append_assoc (flat_map (λ u. u.taken) views) (tasks items) x
      ∙ ap (λ (l : List (ℕ × C)). flat_map (λ u. u.taken) views ++ l) (sym (tasks_append items (m ∷ [])))
      ∙ ap (λ (l : List (ℕ × C)). l ++ tasks (items ++ m ∷ [])) (sym taken) in
      let stopped = b.each_stop in (
        w,
        record {
          parts = let s = total_set (λ u. u.parts) views port v w at in let p = b.parts in omega arith;
          gives = let s = total_set (λ u. u.gives) views port v w at in let p = b.gives in omega arith;
          each_item = subst (λ (l : List (ℕ × C)). IsPermutation (flat_map (λ u. u.given) (set views port w)) l) more
              (IsPermutation-trans _ _ _ (IsPermutation-sym _ _ given) (IsPermutation-append_left x _ _ b.each_item));
          each_stop = let s = total_set (λ u. u.shut) views port v w at in let e = total_set (λ u. u.ended) views port v w at in
              omega (arith, stops_append items (m ∷ []));
          idle = idle_set views port w (record { gave_none = λ none. absurd (omega arith); took_none = λ none. absurd (omega arith) }) b.idle;
          ordered = no_stop items (omega arith) m;
          ended = λ some_stop. let e = total_set (λ u. u.ended) views port v w at in absurd (omega arith);
        },
        refl,
      )

  pub gives_this : (n port : ℕ) (v : Hand C) (m : Mark C N) (t : Task C N) → m ≡ Item t → v.gives ≡ 1 → 0 < v.parts → v.shut ≡ 0 → Pushes IsFair n port v m (λ w. w ≡ gave v m)
  gives_this n port v m t is may some_part none_shut =
      subst (λ (m : Mark C N). Pushes IsFair n port v m (λ w. w ≡ gave v m)) (sym is) (gives_item n port v t may some_part none_shut)

  pub gives_stop : (n port : ℕ) (v : Hand C) → v.gives ≡ 1 → 0 < v.parts → Pushes (IsFair {C = C} {N = N}) n port v Stop (λ w. w ≡ gave {C = C} {N = N} v Stop)
  gives_stop n port v may some_part items views room b at =
      let m : Mark C N = Stop in let w = gave v m in
      let given : flat_map (λ u. u.given) (set views port w) ≡ flat_map (λ u. u.given) views = flat_same (λ u. u.given) views port v w at refl in
      let taken : flat_map (λ u. u.taken) (set views port w) ≡ flat_map (λ u. u.taken) views = flat_same (λ u. u.taken) views port v w at refl in
      let same : tasks (items ++ m ∷ []) ≡ tasks items = tasks_append items (m ∷ []) ∙ append-nil (tasks items) in (
        w,
        record {
          parts = let s = total_set (λ u. u.parts) views port v w at in let p = b.parts in omega arith;
          gives = let s = total_set (λ u. u.gives) views port v w at in let p = b.gives in omega arith;
          each_item = rw (given, taken, same) b.each_item;
          each_stop = let s = total_set (λ u. u.shut) views port v w at in let e = total_set (λ u. u.ended) views port v w at in let p = b.each_stop in
              omega (arith, stops_append items (m ∷ []));
          idle = idle_set views port w (record { gave_none = λ none. absurd (omega arith); took_none = λ none. absurd (omega arith) }) b.idle;
          ordered = ordered_more items b.ordered;
          ended = λ some_stop. let e = total_set (λ u. u.ended) views port v w at in ended_more items (b.ended (omega arith));
        },
        refl,
      )

  pub gives_end : (n port : ℕ) (v : Hand C) (m : Mark C N) → m ≡ Stop → v.gives ≡ 1 → 0 < v.parts → Pushes IsFair n port v m (λ w. w ≡ gave v m)
  gives_end n port v m is may some_part = subst (λ (m : Mark C N). Pushes IsFair n port v m (λ w. w ≡ gave v m)) (sym is) (gives_stop n port v may some_part)

  tail_ordered : (x : Mark C N) (xs : List (Mark C N)) → is_ordered (x ∷ xs) ≡ true → is_ordered xs ≡ true
  tail_ordered (Item t) xs e = e
  tail_ordered Stop xs e = ended_ordered xs e

  takes_item : (port : ℕ) (v : Hand C) → 0 < v.parts → v.gives ≡ 0 → (t : Task C N) (items : List (Mark C N)) (views : List (Hand C)) → IsFair (Item t ∷ items) views
      → get_elem? views port ≡ some v → IsFair items (set views port (took v (Item t)))
  takes_item port v some_part idle t items views b at =
      let m : Mark C N = Item t in let w = took v m in let x : List (ℕ × C) = (t.number, t.item) ∷ [] in
      let given : flat_map (λ u. u.given) (set views port w) ≡ flat_map (λ u. u.given) views = flat_same (λ u. u.given) views port v w at refl in
      let taken : IsPermutation (flat_map (λ u. u.taken) views ++ x) (flat_map (λ u. u.taken) (set views port w)) = flat_more (λ u. u.taken) views port v w x at refl in
      let moved : IsPermutation (flat_map (λ u. u.given) views) ((flat_map (λ u. u.taken) views ++ x) ++ tasks items) =
      subst (λ (l : List (ℕ × C)). IsPermutation (flat_map (λ u. u.given) views) l) (sym (append_assoc (flat_map (λ u. u.taken) views) x (tasks items))) b.each_item in
      let mine = b.idle port v at in record {
        parts = let s = total_set (λ u. u.parts) views port v w at in let p = b.parts in omega arith;
        gives = let s = total_set (λ u. u.gives) views port v w at in let p = b.gives in omega arith;
        each_item = rw given (IsPermutation-trans _ _ _ moved (IsPermutation-append_left (tasks items) _ _ taken));
        each_stop = let s = total_set (λ u. u.shut) views port v w at in let e = total_set (λ u. u.ended) views port v w at in let p = b.each_stop in omega arith;
        idle = idle_set views port w (record { gave_none = mine.gave_none; took_none = λ none. absurd (omega arith) }) b.idle;
        ordered = b.ordered;
        ended = λ some_stop. let e = total_set (λ u. u.ended) views port v w at in let no : is_ended (m ∷ items) ≡ true = b.ended (omega arith) in cc;
      }

  takes_stop : (port : ℕ) (v : Hand C) → 0 < v.parts → v.gives ≡ 0 → (items : List (Mark C N)) (views : List (Hand C)) → IsFair (Stop ∷ items) views
      → get_elem? views port ≡ some v → IsFair items (set views port (took {C = C} {N = N} v Stop))
  takes_stop port v some_part idle items views b at =
      let m : Mark C N = Stop in let w = took v m in
      let given : flat_map (λ u. u.given) (set views port w) ≡ flat_map (λ u. u.given) views = flat_same (λ u. u.given) views port v w at refl in
      let taken : flat_map (λ u. u.taken) (set views port w) ≡ flat_map (λ u. u.taken) views = flat_same (λ u. u.taken) views port v w at refl in
      let mine = b.idle port v at in record {
        parts = let s = total_set (λ u. u.parts) views port v w at in let p = b.parts in omega arith;
        gives = let s = total_set (λ u. u.gives) views port v w at in let p = b.gives in omega arith;
        each_item = rw (given, taken) b.each_item;
        each_stop = let s = total_set (λ u. u.shut) views port v w at in let e = total_set (λ u. u.ended) views port v w at in let p = b.each_stop in omega arith;
        idle = idle_set views port w (record { gave_none = mine.gave_none; took_none = λ none. absurd (omega arith) }) b.idle;
        ordered = ended_ordered items b.ordered;
        ended = λ some_stop. b.ordered;
      }

  pub takes : (port : ℕ) (v : Hand C) → 0 < v.parts → v.gives ≡ 0 → Pops (IsFair {C = C} {N = N}) port v (λ x w. w ≡ took v x)
  takes port v some_part idle (Item t) items views b at = (took v (Item t), takes_item port v some_part idle t items views b at, refl)
  takes port v some_part idle Stop items views b at = (took {C = C} {N = N} v Stop, takes_stop port v some_part idle items views b at, refl)

  pub forks : (port : ℕ) (v : Hand C) → 1 < v.parts → v.gives ≡ 1
      → Forks (IsFair {C = C} {N = N}) port v (hand (v.parts - 1) v.gives v.given v.taken v.shut v.ended) (hand 1 0 [] [] 0 0)
  forks port v some_parts may items views b at =
      let l = hand (v.parts - 1) v.gives v.given v.taken v.shut v.ended in let r : Hand C = hand 1 0 [] [] 0 0 in let vs = set views port l in
      let given : flat_map (λ u. u.given) (vs ++ r ∷ []) ≡ flat_map (λ u. u.given) views = flat_snoc (λ u. u.given) vs r refl ∙ flat_same (λ u. u.given) views port v l at refl in
      let taken : flat_map (λ u. u.taken) (vs ++ r ∷ []) ≡ flat_map (λ u. u.taken) views = flat_snoc (λ u. u.taken) vs r refl ∙ flat_same (λ u. u.taken) views port v l at refl in record {
        parts = let s = total_set (λ u. u.parts) views port v l at in let p = b.parts in omega (arith, total_snoc (λ u. u.parts) vs r);
        gives = let s = total_set (λ u. u.gives) views port v l at in let p = b.gives in omega (arith, total_snoc (λ u. u.gives) vs r);
        each_item = rw (given, taken) b.each_item;
        each_stop = let s = total_set (λ u. u.shut) views port v l at in let e = total_set (λ u. u.ended) views port v l at in let p = b.each_stop in
            omega (arith, total_snoc (λ u. u.shut) vs r, total_snoc (λ u. u.ended) vs r);
        idle = idle_snoc vs r (idle_none 1 0) (idle_set views port l (record { gave_none = λ none. absurd (omega arith); took_none = λ none. absurd (omega arith) }) b.idle);
        ordered = b.ordered;
        ended = λ some_stop. let e = total_set (λ u. u.ended) views port v l at in b.ended (omega (arith, total_snoc (λ u. u.ended) vs r));
      }

  pub merges : (port : ℕ) (v : Hand C) (other : ℕ) (u : Hand C) → v.gives ≡ 1 → 0 < v.parts → u.gives ≡ 0 → u.given ≡ [] → u.shut ≡ 0
      → Merges (IsFair {C = C} {N = N}) port v other u (hand (v.parts + u.parts) v.gives v.given (v.taken ++ u.taken) v.shut (v.ended + u.ended)) (hand 0 0 [] [] 0 0)
  merges port v other u may some_part may_not nothing unshut items views b at two at-2 =
      let both = hand (v.parts + u.parts) v.gives v.given (v.taken ++ u.taken) v.shut (v.ended + u.ended) in let spent : Hand C = hand 0 0 [] [] 0 0 in
      let vs = set views port both in let ws = set vs other spent in
      let given : flat_map (λ y. y.given) ws ≡ flat_map (λ y. y.given) views = flat_same (λ y. y.given) vs other u spent at-2 (sym nothing) ∙ flat_same (λ y. y.given) views port v both at refl in
      let taken : IsPermutation (flat_map (λ y. y.taken) views) (flat_map (λ y. y.taken) ws) = flat_both (λ y. y.taken) views port v other u both spent at two at-2 refl refl in record {
        parts = let s = total_set (λ y. y.parts) views port v both at in let t = total_set (λ y. y.parts) vs other u spent at-2 in let p = b.parts in omega arith;
        gives = let s = total_set (λ y. y.gives) views port v both at in let t = total_set (λ y. y.gives) vs other u spent at-2 in let p = b.gives in omega arith;
        each_item = rw given (IsPermutation-trans _ _ _ b.each_item (IsPermutation-append_left (tasks items) _ _ taken));
        each_stop =
            let s = total_set (λ y. y.shut) views port v both at in let s-2 = total_set (λ y. y.shut) vs other u spent at-2 in
            let t = total_set (λ y. y.ended) views port v both at in let t-2 = total_set (λ y. y.ended) vs other u spent at-2 in
            let p = b.each_stop in omega arith;
        idle = idle_set vs other spent (idle_none 0 0) (idle_set views port both (record { gave_none = λ none. absurd (omega arith); took_none = λ none. absurd (omega arith) }) b.idle);
        ordered = b.ordered;
        ended = λ some_stop.
            let t = total_set (λ y. y.ended) views port v both at in let t-2 = total_set (λ y. y.ended) vs other u spent at-2 in b.ended (omega arith);
      }

  pub bounds : (port : ℕ) (v : Hand C) → v.gives ≡ 1 → Learns (IsFair {C = C} {N = N}) port v (λ _. length v.taken ≤ length v.given)
  bounds port v may items views b at =
      let given = ap length (sole_given items views port v may b at).0 in
      let long = length_permutation _ _ b.each_item in
      omega (arith, among views port v at, length-append (flat_map (λ u. u.taken) views) (tasks items))

  pub learns : (port : ℕ) (v : Hand C) → v.parts ≡ 64 → v.gives ≡ 1 → Learns (IsFair {C = C} {N = N}) port v (Adds v)
  learns port v all may items views b at =
      let given = (sole_given items views port v may b at).0 in
      let taken : flat_map (λ u. u.taken) views ≡ v.taken =
      sole_flat (λ u. u.parts) (λ u. u.taken) views port v at (b.parts ∙ sym all) (λ j u e none. ((b.idle j u e).took_none none).0) in
      let ended : total (λ u. u.ended) views ≡ v.ended =
      sole (λ u. u.parts) (λ u. u.ended) views port v at (b.parts ∙ sym all) (λ j u e none. ((b.idle j u e).took_none none).1) in record {
        each_item = rw (given, taken) at b.each_item;
        ended = λ some_stop. b.ended (omega arith);
      }
