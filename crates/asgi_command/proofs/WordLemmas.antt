-- Two words and their texts.
use Rattle.std.proofs.Common.{◌≡◌, ◌∙◌, ap, sym, ℕ, zero, suc, ◌+◌, ◌<◌, ◌≤◌, Bool, true, false, List, [], ◌∷◌, length, get_or, map, refl, arith, Option, Some, None, IfSome, IfNone, subst, if◌then◌else◌}
use Rattle.std.specs.Prelude.{bytes_eq, codes, not, nat_le, ◌&&◌}
use Rattle.asgi_command.specs.declared.words.App.{App}
use Rattle.asgi_command.specs.declared.words.App.TheVariants as app
use Rattle.asgi_command.specs.declared.words.Command.{Command}
use Rattle.asgi_command.specs.declared.words.Command.TheVariants.{Once, Serve}
use Rattle.asgi_command.specs.Words.{word_of, number_of_word, number_in, within, workers_of, Asks, IsOnce, IsServe, IsServeWith}
use Rattle.asgi_crew.specs.declared.workers.Workers.{Workers}
use Rattle.std.proofs.lemmas.Bool.Decides.{nat_tests}
use Rattle.std.proofs.lemmas.List.{length-map}
use Rattle.std.proofs.lemmas.Slice.Eq.{bytes_eq-Decides}

two_words : {A : Type 0} (f : A → List ℕ) (words : List A) (a b : A) → length words ≡ 2 → a ≡ get_or words 0 a → b ≡ get_or words 1 b
    → map f words ≡ f a ∷ f b ∷ []
two_words f [] a b n x y = absurd (omega (arith, n))
two_words f (v ∷ []) a b n x y = absurd (omega (arith, n))
two_words f (v ∷ w ∷ []) a b n x y = cc
two_words f (v ∷ w ∷ u ∷ rest) a b n x y = absurd (omega (arith, n))

not_not : (b : Bool) → false ≡ not b → b ≡ true
not_not true e = refl
not_not false e = cc

-- the first word has its text, so if the second has one of these texts, both have theirs
pub both_have : {A B : Type 0} (f : A → List ℕ) (words : List A) (a b : A) (first : List ℕ) (text_of : B → List ℕ) (found : Option B)
    → length words ≡ 2 → a ≡ get_or words 0 a → b ≡ get_or words 1 b → false ≡ not (bytes_eq (f a) first)
    → IfSome found (λ it. f b ≡ text_of it) → IfSome found (λ it. map f words ≡ first ∷ text_of it ∷ [])
both_have f words a b first text_of None n x y e named = named
both_have f words a b first text_of (Some it) n x y e named =
    let all = two_words f words a b n x y in
    let one = (bytes_eq-Decides (f a) first).0 (not_not (bytes_eq (f a) first) e) in cc

four_words : {A : Type 0} (f : A → List ℕ) (words : List A) (a b c d : A) → length words ≡ 4 → a ≡ get_or words 0 a → b ≡ get_or words 1 b → c ≡ get_or words 2 c → d ≡ get_or words 3 d
    → map f words ≡ f a ∷ f b ∷ f c ∷ f d ∷ []
four_words f [] a b c d n x y z u = absurd (omega (arith, n))
four_words f (v ∷ []) a b c d n x y z u = absurd (omega (arith, n))
four_words f (v ∷ w ∷ []) a b c d n x y z u = absurd (omega (arith, n))
four_words f (v ∷ w ∷ s ∷ []) a b c d n x y z u = absurd (omega (arith, n))
four_words f (v ∷ w ∷ s ∷ t ∷ []) a b c d n x y z u = cc
four_words f (v ∷ w ∷ s ∷ t ∷ r ∷ rest) a b c d n x y z u = absurd (omega (arith, n))

five_words : {A : Type 0} (f : A → List ℕ) (words : List A) (a b c d e : A) → length words ≡ 5 → a ≡ get_or words 0 a → b ≡ get_or words 1 b → c ≡ get_or words 2 c → d ≡ get_or words 3 d
    → e ≡ get_or words 4 e → map f words ≡ f a ∷ f b ∷ f c ∷ f d ∷ f e ∷ []
five_words f [] a b c d e n x y z u v = absurd (omega (arith, n))
five_words f (v1 ∷ []) a b c d e n x y z u v = absurd (omega (arith, n))
five_words f (v1 ∷ v2 ∷ []) a b c d e n x y z u v = absurd (omega (arith, n))
five_words f (v1 ∷ v2 ∷ v3 ∷ []) a b c d e n x y z u v = absurd (omega (arith, n))
five_words f (v1 ∷ v2 ∷ v3 ∷ v4 ∷ []) a b c d e n x y z u v = absurd (omega (arith, n))
five_words f (v1 ∷ v2 ∷ v3 ∷ v4 ∷ v5 ∷ []) a b c d e n x y z u v = cc
five_words f (v1 ∷ v2 ∷ v3 ∷ v4 ∷ v5 ∷ v6 ∷ rest) a b c d e n x y z u v = absurd (omega (arith, n))

-- the application of a word
abbrev named : List ℕ → Option App
named word = if bytes_eq word (codes "hello") then Some app.Hello else if bytes_eq word (codes "echo") then Some app.Echo
    else if bytes_eq word (codes "notfound") then Some app.NotFound else if bytes_eq word (codes "wsecho") then Some app.WsEcho
    else if bytes_eq word (codes "mounts") then Some app.Mounts else if bytes_eq word (codes "life") then Some app.Life
    else if bytes_eq word (codes "nostart") then Some app.NoStart else if bytes_eq word (codes "nostop") then Some app.NoStop else None

is_named : (a : App) → named (word_of a) ≡ Some a
is_named app.Hello = refl
is_named app.Echo = refl
is_named app.NotFound = refl
is_named app.WsEcho = refl
is_named app.Mounts = refl
is_named app.Life = refl
is_named app.NoStart = refl
is_named app.NoStop = refl

-- each word names one application
pub one_name : (a b : App) → word_of a ≡ word_of b → a ≡ b
one_name a b same = let both = sym (is_named a) ∙ ap named same ∙ is_named b in cc

-- the first word is `serve`, and what the three others ask for is what all ask for
serve_have : (all : List (List ℕ)) (first port count name : List ℕ) (rest : List (List ℕ)) (workers : ℕ) (found : Option Command) → all ≡ first ∷ port ∷ count ∷ name ∷ rest
    → false ≡ not (bytes_eq first (codes "serve")) → workers_of rest ≡ Some workers → IfSome found (λ it. IsServeWith port count name workers it) → IfSome found (λ it. IsServe all it)
serve_have all first port count name rest workers None is e many named = named
serve_have all first port count name rest workers (Some it) is e many named =
    let one = (bytes_eq-Decides first (codes "serve")).0 (not_not (bytes_eq first (codes "serve")) e) in
    (port, count, name, rest, workers, is ∙ ap (λ word. word ∷ port ∷ count ∷ name ∷ rest) one, many, named)

-- if the three others ask for nothing, neither do all
serve_none : (all : List (List ℕ)) (first port count name : List ℕ) (rest : List (List ℕ)) (workers : ℕ) → all ≡ first ∷ port ∷ count ∷ name ∷ rest
    → workers_of rest ≡ Some workers → ((it : Command) → ¬ (IsServeWith port count name workers it)) → (it : Command) → ¬ (IsServe all it)
serve_none all first port count name rest workers is many none it (port', count', name', rest', workers', is', many', with_these) =
    let same : first ∷ port ∷ count ∷ name ∷ rest ≡ codes "serve" ∷ port' ∷ count' ∷ name' ∷ rest' = sym is ∙ is' in
    let one : port' ≡ port = cc in
    let two : count' ≡ count = cc in
    let three : name' ≡ name = cc in
    let last : rest' ≡ rest = cc in
    let found : Some workers' ≡ Some workers = sym many' ∙ ap workers_of last ∙ many in
    let four : workers' ≡ workers = cc in
    none it (subst (λ n. IsServeWith port count name n it) four (subst (λ word. IsServeWith port count word workers' it) three
    (subst (λ word. IsServeWith port word name' workers' it) two (subst (λ word. IsServeWith word count' name' workers' it) one with_these))))

pub four_have : {A : Type 0} (f : A → List ℕ) (words : List A) (a b c d : A) (workers : ℕ) (found : Option Command) → length words ≡ 4
    → a ≡ get_or words 0 a → b ≡ get_or words 1 b → c ≡ get_or words 2 c → d ≡ get_or words 3 d → false ≡ not (bytes_eq (f a) (codes "serve")) → workers ≡ 2
    → IfSome found (λ it. IsServeWith (f b) (f c) (f d) workers it) → IfSome found (λ it. IsServe (map f words) it)
four_have f words a b c d workers found n x y z u e two named =
    serve_have (map f words) (f a) (f b) (f c) (f d) [] workers found (four_words f words a b c d n x y z u) e (ap Some (sym two)) named

pub four_none : {A : Type 0} (f : A → List ℕ) (words : List A) (a b c d : A) (workers : ℕ) (found : Option Command) → length words ≡ 4
    → a ≡ get_or words 0 a → b ≡ get_or words 1 b → c ≡ get_or words 2 c → d ≡ get_or words 3 d → workers ≡ 2
    → IfNone found ((it : Command) → ¬ (IsServeWith (f b) (f c) (f d) workers it)) → IfNone found ((it : Command) → ¬ (IsServe (map f words) it))
four_none f words a b c d workers (Some it) n x y z u two none = none
four_none f words a b c d workers None n x y z u two none =
    serve_none (map f words) (f a) (f b) (f c) (f d) [] workers (four_words f words a b c d n x y z u) (ap Some (sym two)) none

pub five_have : {A : Type 0} (f : A → List ℕ) (words : List A) (a b c d e : A) (workers : ℕ) (found : Option Command) → length words ≡ 5
    → a ≡ get_or words 0 a → b ≡ get_or words 1 b → c ≡ get_or words 2 c → d ≡ get_or words 3 d → e ≡ get_or words 4 e → false ≡ not (bytes_eq (f a) (codes "serve"))
    → number_in 1 8 (f e) ≡ Some workers → IfSome found (λ it. IsServeWith (f b) (f c) (f d) workers it) → IfSome found (λ it. IsServe (map f words) it)
five_have f words a b c d e workers found n x y z u v first many named =
    serve_have (map f words) (f a) (f b) (f c) (f d) (f e ∷ []) workers found (five_words f words a b c d e n x y z u v) first many named

pub five_none : {A : Type 0} (f : A → List ℕ) (words : List A) (a b c d e : A) (workers : ℕ) (found : Option Command) → length words ≡ 5
    → a ≡ get_or words 0 a → b ≡ get_or words 1 b → c ≡ get_or words 2 c → d ≡ get_or words 3 d → e ≡ get_or words 4 e → number_in 1 8 (f e) ≡ Some workers
    → IfNone found ((it : Command) → ¬ (IsServeWith (f b) (f c) (f d) workers it)) → IfNone found ((it : Command) → ¬ (IsServe (map f words) it))
five_none f words a b c d e workers (Some it) n x y z u v many none = none
five_none f words a b c d e workers None n x y z u v many none =
    serve_none (map f words) (f a) (f b) (f c) (f d) (f e ∷ []) workers (five_words f words a b c d e n x y z u v) many none

-- the fifth word is no number of workers
pub no_workers : {A : Type 0} (f : A → List ℕ) (words : List A) (a b c d e : A) → length words ≡ 5
    → a ≡ get_or words 0 a → b ≡ get_or words 1 b → c ≡ get_or words 2 c → d ≡ get_or words 3 d → e ≡ get_or words 4 e → number_in 1 8 (f e) ≡ None
    → (it : Command) → ¬ (IsServe (map f words) it)
no_workers f words a b c d e n x y z u v many it (port, count, name, rest, workers, is, of, with_these) =
    let same : f a ∷ f b ∷ f c ∷ f d ∷ f e ∷ [] ≡ codes "serve" ∷ port ∷ count ∷ name ∷ rest = sym (five_words f words a b c d e n x y z u v) ∙ is in
    let last : rest ≡ f e ∷ [] = cc in
    let never : None ≡ Some workers = sym many ∙ sym (ap workers_of last) ∙ of in cc

few_workers : (rest : List (List ℕ)) (n : ℕ) → workers_of rest ≡ Some n → length rest ≤ 1
few_workers [] n is = omega arith
few_workers (word ∷ []) n is = omega arith
few_workers (word ∷ other ∷ rest) n is = cc

-- neither four words nor five
pub other_words : {A : Type 0} (f : A → List ℕ) (words : List A) → ¬ (length words ≡ 4) → ¬ (length words ≡ 5) → (it : Command) → ¬ (IsServe (map f words) it)
other_words f words four five it (port, count, name, rest, workers, is, of, with_these) =
    let few = few_workers rest workers of in
    let many : length words ≡ 4 + length rest = sym (length-map words f) ∙ ap length is ∙ omega arith in
    at (length rest) few many
  where
    at : (k : ℕ) → k ≤ 1 → length words ≡ 4 + k → ⊥
    at zero few many = four many
    at (suc zero) few many = five many
    at (suc (suc k)) few many = absurd (omega (arith, few))

asks_nothing : (words : List (List ℕ)) → ((a : App) → ¬ (IsOnce words a)) → ((it : Command) → ¬ (IsServe words it)) → (it : Command) → ¬ (Asks words it)
asks_nothing words once serve (Once a) is = once a is
asks_nothing words once serve (Serve port count a w) is = serve (Serve port count a w) is

-- words that ask for neither are no command
pub no_command : (words : List (List ℕ)) (found : Option Command) → ((a : App) → ¬ (IsOnce words a)) → IfNone found ((it : Command) → ¬ (IsServe words it))
    → IfNone found ((it : Command) → ¬ (Asks words it))
no_command words (Some it) once serve = serve
no_command words None once serve = asks_nothing words once serve

-- words that ask to serve one connection name one application
pub one_once : (words : List (List ℕ)) (a b : App) → IsOnce words a → IsOnce words b → a ≡ b
one_once words a b is is' =
    let same : codes "once" ∷ word_of a ∷ [] ≡ codes "once" ∷ word_of b ∷ [] = sym is ∙ is' in
    let named_so : word_of a ≡ word_of b = cc in
    one_name a b named_so

-- words that ask to serve name one application and one number of workers
pub one_serving : (words : List (List ℕ)) (a b : App) (p c q d : ℕ) (w v : Workers) → IsServe words (Serve p c a w) → IsServe words (Serve q d b v) → (a ≡ b) × (w.count ≡ v.count)
one_serving words a b p c q d w v (port, count, name, rest, n, is, of, with_these) (port', count', name', rest', m, is', of', with_others) =
    let same : codes "serve" ∷ port ∷ count ∷ name ∷ rest ≡ codes "serve" ∷ port' ∷ count' ∷ name' ∷ rest' = sym is ∙ is' in
    let named_so : name ≡ name' = cc in
    let last : rest ≡ rest' = cc in
    let many : Some n ≡ Some m = sym of ∙ ap workers_of last ∙ of' in
    let as_many : n ≡ m = cc in
    (one_name a b (sym with_these.2 ∙ named_so ∙ with_others.2), with_these.3 ∙ as_many ∙ sym with_others.3)

-- and one port and one number of connections
pub one_port : (words : List (List ℕ)) (a b : App) (p c q d : ℕ) (w v : Workers) → IsServe words (Serve p c a w) → IsServe words (Serve q d b v) → (p ≡ q) × (c ≡ d)
one_port words a b p c q d w v (port, count, name, rest, n, is, of, with_these) (port', count', name', rest', m, is', of', with_others) =
    let same : codes "serve" ∷ port ∷ count ∷ name ∷ rest ≡ codes "serve" ∷ port' ∷ count' ∷ name' ∷ rest' = sym is ∙ is' in
    let port_so : port ≡ port' = cc in
    let count_so : count ≡ count' = cc in
    let ports : Some p ≡ Some q = sym with_these.0 ∙ (ap (λ word. number_in 1 65535 word) port_so ∙ with_others.0) in
    let counts : Some c ≡ Some d = sym with_these.1 ∙ (ap (λ word. number_in 1 1000 word) count_so ∙ with_others.1) in
    let one : p ≡ q = cc in
    let other : c ≡ d = cc in
    (one, other)

bounds_of : (n k : ℕ) (b c : Bool) → nat_le 1 k ≡ b → nat_le k 8 ≡ c → ◌≡◌ {A = Option ℕ} (if b && c then Some k else None) (Some n) → (0 < n) × (n ≤ 8)
bounds_of n k true true x y is = let same : k ≡ n = cc in (grind (arith, nat_tests), grind (arith, nat_tests))
bounds_of n k true false x y is = cc
bounds_of n k false c x y is = cc

-- a number within these bounds is one of workers
pub no_number : (word : List ℕ) (n : ℕ) → number_in 1 8 word ≡ Some n → (0 < n) × (n ≤ 8)
no_number word n is = by (number_of_word word) is
  where
    by : (found : Option ℕ) → within 1 8 found ≡ Some n → (0 < n) × (n ≤ 8)
    by None is = cc
    by (Some k) is = bounds_of n k (nat_le 1 k) (nat_le k 8) refl refl is
