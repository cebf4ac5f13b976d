-- What is known of workers, one after another.
use Rattle.std.proofs.Common.{◌≡◌, ℕ, List, [], ◌∷◌, ◌++◌, ◌+◌, length, map, refl, sym, ap, ◌∙◌, subst, append-nil, flat_map, Option, Some, All, ◌<◌, arith}
use Rattle.std.specs.List.{range_with_len}
use Rattle.std.specs.List.Sorted.{IsPermutation}
use Rattle.std.proofs.lemmas.List.{map-append, length-map}
use Rattle.std.proofs.lemmas.List.Concat.{flat_map-append}
use Rattle.std.proofs.lemmas.List.Elements.{All-nil, All-cons, All-push, All-head, All-tail}
use Rattle.std.proofs.lemmas.List.Sorted.{IsPermutation-map, length_permutation}
use Rattle.asgi_crew.specs.declared.channel.Hand.{Hand}
use Rattle.asgi_desk.specs.Told.{numbers_of, one_to}
use Rattle.asgi_crew.specs.Shared.{numbered, Turn, InTurn, IsShared}
use Rattle.asgi_crew.specs.declared.give.End.{End}
use Rattle.asgi_crew.specs.declared.give.End.TheVariants.{Given, NoMemory, NoThread}
use Rattle.asgi_crew.specs.Ran.{items_of, last_of, HaveEnded, Ran}
use Rattle.asgi_crew.proofs.Flat.{same_elements}

numbered_to : {C : Type 0} (n : ℕ) (cs : List C) → numbers_of (numbered n cs) ≡ range_with_len (n + 1) (length cs)
numbered_to n [] = refl
numbered_to n (c ∷ cs) = ap (λ (l : List ℕ). (n + 1) ∷ l) (numbered_to (n + 1) cs)

-- all workers took their stop
pub all_ended : (e : End) (workers ended : ℕ) → ¬ (e ≡ NoThread) → ended ≡ workers → HaveEnded e workers ended
all_ended Given workers ended begun is = is
all_ended NoMemory workers ended begun is = is
all_ended NoThread workers ended begun is = absurd (begun refl)

-- if there are workers, one ended
pub some_ended : (e : End) (workers ended : ℕ) → HaveEnded e workers ended → 0 < workers → 0 < ended
some_ended Given workers ended is some = omega arith
some_ended NoMemory workers ended is some = omega arith
some_ended NoThread workers ended is some = is

module _ {W C N : Type 0} (serves : W → W → C → N → Type 0) where
  -- one item more
  pub served_more : (was mid is : W) (items : List (ℕ × C)) (reports : List (ℕ × N)) (n : ℕ) (c : C) (r : N) → InTurn serves was mid items reports → serves mid is c r
      → InTurn serves was is (items ++ (n, c) ∷ []) (reports ++ (n, r) ∷ [])
  served_more was mid is [] [] n c r turn one = (is, subst (λ (w : W). serves w is c r) turn one, refl, refl)
  served_more was mid is (i ∷ items) (q ∷ reports) n c r turn one = (turn.0, turn.1, turn.2, served_more turn.0 mid is items reports n c r turn.3 one)
  served_more was mid is [] (q ∷ reports) n c r turn one = absurd turn
  served_more was mid is (i ∷ items) [] n c r turn one = absurd turn

  pub served_next : (was mid is : W) (items more : List (ℕ × C)) (reports told : List (ℕ × N)) (n : ℕ) (c : C) (r : N) → InTurn serves was mid items reports → serves mid is c r
      → more ≡ items ++ (n, c) ∷ [] → told ≡ reports ++ (n, r) ∷ [] → InTurn serves was is more told
  served_next was mid is items more reports told n c r turn one grown grown-2 =
      subst (λ (l : List (ℕ × C)). InTurn serves was is l told) (sym grown)
      (subst (λ (l : List (ℕ × N)). InTurn serves was is (items ++ (n, c) ∷ []) l) (sym grown-2) (served_more was mid is items reports n c r turn one))

  -- each item has its report
  told_numbers : (was is : W) (items : List (ℕ × C)) (reports : List (ℕ × N)) → InTurn serves was is items reports → numbers_of reports ≡ numbers_of items
  told_numbers was is [] [] turn = refl
  told_numbers was is (i ∷ items) (r ∷ reports) turn =
      let e = turn.2 in let rest = told_numbers turn.0 is items reports turn.3 in cc
  told_numbers was is [] (r ∷ reports) turn = absurd turn
  told_numbers was is (i ∷ items) [] turn = absurd turn

  pub as_many_one : (was is : W) (items : List (ℕ × C)) (reports : List (ℕ × N)) → InTurn serves was is items reports → length reports ≡ length items
  as_many_one was is [] [] turn = refl
  as_many_one was is (i ∷ items) (r ∷ reports) turn = let e = as_many_one turn.0 is items reports turn.3 in omega arith
  as_many_one was is [] (r ∷ reports) turn = absurd turn
  as_many_one was is (i ∷ items) [] turn = absurd turn

  all_numbers : (turns : List (Turn W C N)) → All (λ t. InTurn serves t.before t.after t.items t.reports) turns
      → numbers_of (flat_map (λ t. t.reports) turns) ≡ numbers_of (flat_map (λ t. t.items) turns)
  all_numbers [] all = refl
  all_numbers (t ∷ turns) all =
      let P : Turn W C N → Type 0 = λ t. InTurn serves t.before t.after t.items t.reports in
      let one = told_numbers t.before t.after t.items t.reports (All-head P t turns all) in
      let rest = all_numbers turns (All-tail P t turns all) in
      map-append (λ (r : ℕ × N). r.0) t.reports (flat_map (λ t. t.reports) turns)
      ∙ ap (λ (l : List ℕ). l ++ numbers_of (flat_map (λ t. t.reports) turns)) one
      ∙ ap (λ (l : List ℕ). numbers_of t.items ++ l) rest
      ∙ sym (map-append (λ (i : ℕ × C). i.0) t.items (flat_map (λ t. t.items) turns))

  -- as many reports as items that were taken
  pub as_many : (old new last : List (Option C)) (was is : List W) (put : List (ℕ × N)) (v : Hand C) → Ran serves old new last was is put v → length put ≡ length v.taken
  as_many old new last was is put v ran =
      let same = ap length (all_numbers ran.turns ran.in_turn) in
      let told = ap length ran.told in
      let taken = ap length ran.taken in
      omega (arith, length-map (flat_map (λ t. t.reports) ran.turns) (λ (r : ℕ × N). r.0), length-map (flat_map (λ t. t.items) ran.turns) (λ (i : ℕ × C). i.0))

  -- once nothing is left of what was given, the reports have the numbers 1, 2, 3 .. up to how many there are
  pub all_numbered : (old new last : List (Option C)) (was is : List W) (put : List (ℕ × N)) (v : Hand C) → Ran serves old new last was is put v → IsPermutation v.given v.taken
      → IsPermutation (one_to (length put)) (numbers_of put)
  all_numbered old new last was is put v ran all =
      let names : numbers_of put ≡ numbers_of v.taken = ap numbers_of (sym ran.told) ∙ all_numbers ran.turns ran.in_turn ∙ ap numbers_of ran.taken in
      let moved : IsPermutation (numbers_of v.given) (numbers_of v.taken) = IsPermutation-map (λ (i : ℕ × C). i.0) v.given v.taken all in
      let long = length_permutation _ _ all in
      let many = as_many old new last was is put v ran in
      let same : length (items_of v.given) ≡ length put = omega (arith, length-map v.given (λ (i : ℕ × C). i.1)) in
      let up : numbers_of v.given ≡ one_to (length put) = ap numbers_of ran.numbers ∙ numbered_to 0 (items_of v.given) ∙ ap one_to same in
      subst (λ (l : List ℕ). IsPermutation l (numbers_of put)) up (subst (λ (l : List ℕ). IsPermutation (numbers_of v.given) l) (sym names) moved)

  -- no worker has ended yet
  pub begun_at : (old new last : List (Option C)) (was is : List W) (put : List (ℕ × N)) (v v-2 : Hand C) → was ≡ [] → is ≡ [] → put ≡ [] → v.taken ≡ []
      → new ≡ old ++ (map Some (items_of v.given) ++ last) → v.given ≡ numbered 0 (items_of v.given) → v-2.given ≡ v.given → v-2.taken ≡ v.taken
      → Ran serves old new last was is put v-2
  begun_at old new last was is put v v-2 no-was no-is no-put none answers numbers given taken = record {
    turns = [];
    before = sym no-was;
    after = sym no-is;
    in_turn = All-nil (λ t. InTurn serves t.before t.after t.items t.reports);
    taken = sym (taken ∙ none);
    told = sym no-put;
    answers = subst (λ (l : List (ℕ × C)). new ≡ old ++ (map Some (items_of l) ++ last)) (sym given) answers;
    numbers = subst (λ (l : List (ℕ × C)). l ≡ numbered 0 (items_of l)) (sym given) numbers;
  }

  -- one worker more
  pub one_more_at : (old new last : List (Option C)) (was is was-2 is-2 : List W) (put all : List (ℕ × N)) (v v-2 : Hand C) (w w-2 : W) (taken : List (ℕ × C)) (told : List (ℕ × N))
      → Ran serves old new last was is put v → InTurn serves w w-2 taken told → v-2.given ≡ v.given → v-2.taken ≡ v.taken ++ taken → all ≡ put ++ told
      → was-2 ≡ was ++ w ∷ [] → is-2 ≡ is ++ w-2 ∷ [] → Ran serves old new last was-2 is-2 all v-2
  one_more_at old new last was is was-2 is-2 put all v v-2 w w-2 taken told ran turn same-given same-taken grown e e-2 =
      let t : Turn W C N = record { before = w; after = w-2; items = taken; reports = told } in record {
        turns = ran.turns ++ t ∷ [];
        before = map-append (λ (t : Turn W C N). t.before) ran.turns (t ∷ []) ∙ ap (λ (l : List W). l ++ w ∷ []) ran.before ∙ sym e;
        after = map-append (λ (t : Turn W C N). t.after) ran.turns (t ∷ []) ∙ ap (λ (l : List W). l ++ w-2 ∷ []) ran.after ∙ sym e-2;
        in_turn = All-push (λ t. InTurn serves t.before t.after t.items t.reports) ran.turns t ran.in_turn turn;
        taken = flat_map-append (λ (t : Turn W C N). t.items) ran.turns (t ∷ []) ∙ ap (λ (l : List (ℕ × C)). flat_map (λ t. t.items) ran.turns ++ l) (append-nil taken)
            ∙ ap (λ (l : List (ℕ × C)). l ++ taken) ran.taken ∙ sym same-taken;
        told = flat_map-append (λ (t : Turn W C N). t.reports) ran.turns (t ∷ []) ∙ ap (λ (l : List (ℕ × N)). flat_map (λ t. t.reports) ran.turns ++ l) (append-nil told)
            ∙ ap (λ (l : List (ℕ × N)). l ++ told) ran.told ∙ sym grown;
        answers = subst (λ (l : List (ℕ × C)). new ≡ old ++ (map Some (items_of l) ++ last)) (sym same-given) ran.answers;
        numbers = subst (λ (l : List (ℕ × C)). l ≡ numbered 0 (items_of l)) (sym same-given) ran.numbers;
      }

  -- all workers have ended, and nothing is left
  pub shared : (old new last : List (Option C)) (was is : List W) (put reports : List (ℕ × N)) (v : Hand C)
      → Ran serves old new last was is put v → IsPermutation v.given v.taken → IsPermutation put reports → numbers_of reports ≡ one_to (length put)
      → IsShared serves old new last was is reports
  shared old new last was is put reports v ran all moved up =
      let given = items_of v.given in
      let long = length_permutation _ _ all in
      let many = as_many old new last was is put v ran in
      let same : length put ≡ length given = omega (arith, length-map v.given (λ (i : ℕ × C). i.1)) in record {
        given = given;
        answers = ran.answers;
        turns = ran.turns;
        workers = (ran.before, ran.after);
        in_turn = ran.in_turn;
        each_item = rw (sym ran.numbers, ran.taken) all;
        each_report = subst (λ (l : List (ℕ × N)). IsPermutation l reports) (sym ran.told) moved;
        in_order = up ∙ ap one_to same ∙ sym (numbered_to 0 given);
      }

  -- each worker as it was, if no item was asked for
  still : List W → List (Turn W C N)
  still [] = []
  still (w ∷ ws) = record { before = w; after = w; items = []; reports = [] } ∷ still ws

  still_before : (ws : List W) → map (λ (t : Turn W C N). t.before) (still ws) ≡ ws
  unfolding still
  still_before [] = refl
  still_before (w ∷ ws) = ap (λ (l : List W). w ∷ l) (still_before ws)

  still_after : (ws : List W) → map (λ (t : Turn W C N). t.after) (still ws) ≡ ws
  unfolding still
  still_after [] = refl
  still_after (w ∷ ws) = ap (λ (l : List W). w ∷ l) (still_after ws)

  still_items : (ws : List W) → flat_map (λ (t : Turn W C N). t.items) (still ws) ≡ []
  unfolding still
  still_items [] = refl
  still_items (w ∷ ws) = still_items ws

  still_reports : (ws : List W) → flat_map (λ (t : Turn W C N). t.reports) (still ws) ≡ []
  unfolding still
  still_reports [] = refl
  still_reports (w ∷ ws) = still_reports ws

  still_in_turn : (ws : List W) → All (λ (t : Turn W C N). InTurn serves t.before t.after t.items t.reports) (still ws)
  unfolding still
  still_in_turn [] = All-nil (λ t. InTurn serves t.before t.after t.items t.reports)
  still_in_turn (w ∷ ws) = All-cons (λ (t : Turn W C N). InTurn serves t.before t.after t.items t.reports) (record { before = w; after = w; items = []; reports = [] }) (still ws) refl (still_in_turn ws)

  -- these workers were not started, and nothing was given
  pub none_started : (old new : List (Option C)) (ws : List W) (put : List (ℕ × N)) (v : Hand C) → new ≡ old → put ≡ [] → v.given ≡ [] → v.taken ≡ [] → Ran serves old new [] ws ws put v
  none_started old new ws put v same no-put none none-2 = record {
    turns = still ws;
    before = still_before ws;
    after = still_after ws;
    in_turn = still_in_turn ws;
    taken = still_items ws ∙ sym none-2;
    told = still_reports ws ∙ sym no-put;
    answers = same ∙ sym (append-nil old) ∙ ap (λ (l : List (ℕ × C)). old ++ (map Some (items_of l) ++ [])) (sym none);
    numbers = none ∙ ap (λ (l : List (ℕ × C)). numbered 0 (items_of l)) (sym none);
  }

  none_asked : (old : List (Option C)) (was : List W) → IsShared serves old old [] was was []
  none_asked old was = record {
    given = [];
    answers = sym (append-nil old);
    turns = still was;
    workers = (still_before was, still_after was);
    in_turn = still_in_turn was;
    each_item = same_elements [] (flat_map (λ (t : Turn W C N). t.items) (still was)) (sym (still_items was));
    each_report = same_elements (flat_map (λ (t : Turn W C N). t.reports) (still was)) [] (still_reports was);
    in_order = refl;
  }

  pub not_begun : (old : List (Option C)) (e : End) (was is : List W) (reports : List (ℕ × N)) → e ≡ NoMemory → is ≡ was → reports ≡ [] → IsShared serves old old (last_of e) was is reports
  not_begun old e was is reports end same none = rw (end, same, none) (none_asked old was)
