-- What is known of the workers by a part of each, or by a number of it.
use Rattle.std.proofs.Common.{◌≡◌, ℕ, List, [], ◌∷◌, ◌++◌, map, refl, sym, ap, ◌∙◌, subst, flat_map, Option, All}
use Rattle.std.specs.List.Sorted.{IsPermutation}
use Rattle.std.proofs.lemmas.List.Elements.{All-nil, All-cons, All-head, All-tail}
use Rattle.asgi_crew.specs.Shared.{numbered, Turn, InTurn, IsShared}

module _ {W V C N : Type 0} (part : W → V) (serves : W → W → C → N → Type 0) (by_part : V → V → C → N → Type 0)
    (seen : (was is : W) (c : C) (r : N) → serves was is c r → by_part (part was) (part is) c r) where
  abbrev of_turn : Turn W C N → Turn V C N
  of_turn t = record { before = part t.before; after = part t.after; items = t.items; reports = t.reports }

  of_turns : List (Turn W C N) → List (Turn V C N)
  of_turns [] = []
  of_turns (t ∷ ts) = of_turn t ∷ of_turns ts

  in_turn_by : (was is : W) (items : List (ℕ × C)) (reports : List (ℕ × N)) → InTurn serves was is items reports → InTurn by_part (part was) (part is) items reports
  in_turn_by was is [] [] turn = ap part turn
  in_turn_by was is (i ∷ items) (r ∷ reports) turn = (part turn.0, seen was turn.0 i.1 r.1 turn.1, turn.2, in_turn_by turn.0 is items reports turn.3)
  in_turn_by was is [] (r ∷ reports) turn = absurd turn
  in_turn_by was is (i ∷ items) [] turn = absurd turn

  befores : (ts : List (Turn W C N)) → map (λ t. t.before) (of_turns ts) ≡ map part (map (λ t. t.before) ts)
  unfolding of_turns
  befores [] = refl
  befores (t ∷ ts) = ap (λ (l : List V). part t.before ∷ l) (befores ts)

  afters : (ts : List (Turn W C N)) → map (λ t. t.after) (of_turns ts) ≡ map part (map (λ t. t.after) ts)
  unfolding of_turns
  afters [] = refl
  afters (t ∷ ts) = ap (λ (l : List V). part t.after ∷ l) (afters ts)

  same_items : (ts : List (Turn W C N)) → flat_map (λ t. t.items) (of_turns ts) ≡ flat_map (λ t. t.items) ts
  unfolding of_turns
  same_items [] = refl
  same_items (t ∷ ts) = ap (λ (l : List (ℕ × C)). t.items ++ l) (same_items ts)

  same_reports : (ts : List (Turn W C N)) → flat_map (λ t. t.reports) (of_turns ts) ≡ flat_map (λ t. t.reports) ts
  unfolding of_turns
  same_reports [] = refl
  same_reports (t ∷ ts) = ap (λ (l : List (ℕ × N)). t.reports ++ l) (same_reports ts)

  each_in_turn : (ts : List (Turn W C N)) → All (λ t. InTurn serves t.before t.after t.items t.reports) ts → All (λ t. InTurn by_part t.before t.after t.items t.reports) (of_turns ts)
  unfolding of_turns
  each_in_turn [] all = All-nil (λ t. InTurn by_part t.before t.after t.items t.reports)
  each_in_turn (t ∷ ts) all =
      let P : Turn W C N → Type 0 = λ t. InTurn serves t.before t.after t.items t.reports in
      let Q : Turn V C N → Type 0 = λ t. InTurn by_part t.before t.after t.items t.reports in
      All-cons Q (of_turn t) (of_turns ts) (in_turn_by t.before t.after t.items t.reports (All-head P t ts all)) (each_in_turn ts (All-tail P t ts all))

  -- workers that shared the items did so by these parts, too
  pub shared_by : (old new last : List (Option C)) (was is : List W) (reports : List (ℕ × N)) → IsShared serves old new last was is reports
      → IsShared by_part old new last (map part was) (map part is) reports
  shared_by old new last was is reports x = record {
    given = x.given;
    answers = x.answers;
    turns = of_turns x.turns;
    workers = (befores x.turns ∙ ap (map part) x.workers.0, afters x.turns ∙ ap (map part) x.workers.1);
    in_turn = each_in_turn x.turns x.in_turn;
    each_item = subst (λ (l : List (ℕ × C)). IsPermutation (numbered 0 x.given) l) (sym (same_items x.turns)) x.each_item;
    each_report = subst (λ (l : List (ℕ × N)). IsPermutation l reports) (sym (same_reports x.turns)) x.each_report;
    in_order = x.in_order;
  }
