-- After an opening handshake stand frames: which bytes they are, and that it stands after whole requests.
use Rattle.std.proofs.Common.{◌≡◌, ℕ, ◌⊎◌, inl, inr, Bool, true, false, List, [], ◌∷◌, ◌++◌, length, refl, sym, ap, ◌∙◌, subst, Option, Some, None, Result, Ok, Err, flat_map}
use Rattle.std.specs.Prelude.{◌+◌, ◌-◌, ◌&&◌, ◌==◌, not, nat_lt, bytes_eq, codes, if◌then◌else◌}
use Rattle.std.specs.Option.{unwrap_or}
use Rattle.httparse.specs.Ascii.{crlf_bytes}
use Rattle.httparse.specs.Grammar.{RequestHead}
use Rattle.asgi_types.specs.declared.facts.Facts.{Facts}
use Rattle.asgi_types.specs.declared.facts.Framing.{Framing}
use Rattle.asgi_types.specs.declared.facts.Framing.TheVariants.{Length, Chunked, Upgrade}
use Rattle.asgi_types.specs.declared.incoming.Incoming.TheVariants.{HttpRequest}
use Rattle.asgi_types.specs.declared.limits.Limits.{Limits}
use Rattle.asgi_types.specs.declared.scope.Scope.{Scope}
use Rattle.asgi_request.specs.declared.head.HeadRecord.{HeadRecord}
use Rattle.asgi_request.specs.declared.next.Next.{Next}
use Rattle.asgi_request.specs.declared.next.Next.TheVariants.{Head, Event, Whole}
use Rattle.asgi_request.specs.declared.place.Place.{Place}
use Rattle.asgi_request.specs.declared.place.Place.TheVariants.{Start, Counted, SizeLine, Chunk, ChunkEnd, Trailers, BodyEnd, HandshakeEnd, Upgraded, Stopped}
use Rattle.asgi_request.specs.declared.refusal.Refusal.{Refusal}
use Rattle.asgi_request.specs.declared.refusal.Refusal.TheVariants.{BadRequest, ContentTooLarge, UpgradeRequired, NotImplemented}
use Rattle.asgi_types.specs.declared.outgoing.HttpVersion.{HttpVersion}
use Rattle.asgi_types.specs.Fields.{HeaderField}
use Rattle.asgi_types.specs.Versions.{is_v11}
use Rattle.asgi_request.specs.BodyLength.{lacks_host, is_chunked, content_length, is_missing, exceeds, has_length, has_coding, body_length, framing_or_refusal}
use Rattle.asgi_request.specs.FieldValues.{count_named}
use Rattle.asgi_request.specs.Fronts.{Front, found, too_long, unfinished, front_text, head_len}
use Rattle.asgi_request.specs.Head.{IsHeadOf, ParsesHead, record_of}
use Rattle.asgi_request.specs.HeadText.{EndsAsHead}
use Rattle.asgi_request.specs.Opened.{BeginsWithHandshake}
use Rattle.asgi_request.specs.Places.{Judged}
use Rattle.asgi_request.specs.Places.{front, bad, silent, gives, after_framing, after_head, after_counted, after_size, after_chunk, after_chunk_end, after_trailers, after_too_long, JudgesText, Judges, Takes, Reads, shown, Reaches}
use Rattle.asgi_request.specs.Key.{is_key}
use Rattle.asgi_request.specs.RequestFraming.{frames_or, upgraded, request_framing}
use Rattle.asgi_request.specs.Target.{is_target}
use Rattle.asgi_request.specs.Upgrade.{asks_for_websocket, has_version, has_key, key_of, handshake_or_refusal}
use Rattle.asgi_request.specs.Results.{ReadsHead, ReadsHandshake, AreRequests, GivesResults}
use Rattle.asgi_request.specs.Scopes.{has_body, scope_of, facts_of}
use Rattle.asgi_request.specs.Texts.{IsFirstWithin}
use Rattle.asgi_request.proofs.TextLemmas.{tells, head_search_for}
use Rattle.asgi_request.proofs.StandardLemmas.{whole_requests}
use Rattle.asgi_request.proofs.UniqueLemmas.{shown-append}

-- ---- a turn that leads to the end of an opening handshake is that of its head

abbrev StaysOff : Judged → Type 0
StaysOff t = (t.place ≡ HandshakeEnd → ⊥) × (t.place ≡ Upgraded → ⊥)

off : (turn t : Judged) → turn ≡ t → StaysOff t → StaysOff turn
off turn t e x = let P : Judged → Type 0 = λ y. StaysOff y in subst P (sym e) x

either_off : (b : Bool) (s t : Judged) → StaysOff s → StaysOff t → StaysOff (if b then s else t)
either_off true s t x y = x
either_off false s t x y = y

size_off : (max_body sum : ℕ) (n : Option ℕ) → StaysOff (after_size max_body sum n)
size_off max_body sum None = (λ e. cc, λ e. cc)
size_off max_body sum (Some n) =
    either_off (nat_lt max_body (sum + n)) (bad ContentTooLarge) (if n == 0 then silent Trailers else silent (Chunk n (sum + n))) (λ e. cc, λ e. cc)
    (either_off (n == 0) (silent Trailers) (silent (Chunk n (sum + n))) (λ e. cc, λ e. cc) (λ e. cc, λ e. cc))

trailers_off : (ok : Bool) → StaysOff (after_trailers ok)
trailers_off true = (λ e. cc, λ e. cc)
trailers_off false = (λ e. cc, λ e. cc)

long_off : (place : Place) → StaysOff (after_too_long place)
long_off Start = (λ e. cc, λ e. cc)
long_off (Counted n) = (λ e. cc, λ e. cc)
long_off (SizeLine sum) = (λ e. cc, λ e. cc)
long_off (Chunk left sum) = (λ e. cc, λ e. cc)
long_off (ChunkEnd sum) = (λ e. cc, λ e. cc)
long_off Trailers = (λ e. cc, λ e. cc)
long_off BodyEnd = (λ e. cc, λ e. cc)
long_off HandshakeEnd = (λ e. cc, λ e. cc)
long_off Upgraded = (λ e. cc, λ e. cc)
long_off (Stopped why) = (λ e. cc, λ e. cc)

-- the place is the one that the handshake's turns lead from
LeadsUp : Place → Judged → Type 0
LeadsUp place turn = (turn.place ≡ HandshakeEnd → place ≡ Start) × (turn.place ≡ Upgraded → (place ≡ HandshakeEnd) × (turn.item ≡ Some Whole))

by_off : (place : Place) (turn : Judged) → StaysOff turn → LeadsUp place turn
unfolding LeadsUp
by_off place turn x = (λ e. absurd (x.0 e), λ e. absurd (x.1 e))

framing_leads : (r : HeadRecord) (f : Result Framing Refusal) → (after_framing r f).place ≡ Upgraded → ⊥
framing_leads r (Ok (Length n)) e = cc
framing_leads r (Ok Chunked) e = cc
framing_leads r (Ok Upgrade) e = cc
framing_leads r (Err why) e = cc

head_leads : (limits : Limits) (r : Option HeadRecord) → (after_head limits r).place ≡ Upgraded → ⊥
head_leads limits None e = cc
head_leads limits (Some r) e = framing_leads r (request_framing r limits) e

text_leads : (limits : Limits) (place : Place) (text : List ℕ) (turn : Judged) → JudgesText limits place text turn → LeadsUp place turn
unfolding LeadsUp
text_leads limits Start text turn j = (λ e. refl, λ e. absurd (head_leads limits j.0 (sym (ap (λ (t : Judged). t.place) j.2) ∙ e)))
text_leads limits (Counted n) text turn j =
    by_off (Counted n) turn (off turn (after_counted n text) j
    (either_off (nat_lt (length text) n) (gives (Event (HttpRequest text true)) (Counted (n - length text))) (gives (Event (HttpRequest text false)) BodyEnd) (λ e. cc, λ e. cc) (λ e. cc, λ e. cc)))
text_leads limits (SizeLine sum) text turn j = by_off (SizeLine sum) turn (off turn (after_size limits.max_body sum j.0) j.2 (size_off limits.max_body sum j.0))
text_leads limits (Chunk left sum) text turn j =
    by_off (Chunk left sum) turn (off turn (after_chunk left sum text) j
    (either_off (nat_lt (length text) left) (gives (Event (HttpRequest text true)) (Chunk (left - length text) sum)) (gives (Event (HttpRequest text true)) (ChunkEnd sum)) (λ e. cc, λ e. cc) (λ e. cc, λ e. cc)))
text_leads limits (ChunkEnd sum) text turn j =
    by_off (ChunkEnd sum) turn (off turn (after_chunk_end sum text) j
    (either_off (bytes_eq text crlf_bytes) (silent (SizeLine sum)) (bad BadRequest) (λ e. cc, λ e. cc) (λ e. cc, λ e. cc)))
text_leads limits Trailers text turn j = by_off Trailers turn (off turn (after_trailers j.0) j.2 (trailers_off j.0))
text_leads limits BodyEnd text turn j = by_off BodyEnd turn (off turn (gives Whole Start) j (λ e. cc, λ e. cc))
text_leads limits HandshakeEnd text turn j =
    let same : turn.place ≡ Upgraded = ap (λ (t : Judged). t.place) j in
    (λ e. absurd (let never : Upgraded ≡ HandshakeEnd = sym same ∙ e in cc), λ e. (refl, ap (λ (t : Judged). t.item) j))
text_leads limits Upgraded text turn j = absurd j
text_leads limits (Stopped why) text turn j = absurd j

turn_leads : (limits : Limits) (place : Place) (f : Front) (turn : Judged) → Judges limits place f turn → LeadsUp place turn
turn_leads limits place (found text) turn j = text_leads limits place text turn j
turn_leads limits place too_long turn j = by_off place turn (off turn (after_too_long place) j (long_off place))
turn_leads limits place unfinished turn j = absurd j

-- ---- the head of an opening handshake

-- the turn gives the head of an opening handshake, after which the frames stand
abbrev GivesHandshake : Limits → List ℕ → List ℕ → Option Next → Type 0
GivesHandshake limits bytes frames item =
    (head : RequestHead) × ReadsHead limits bytes head Upgrade frames × (item ≡ Some (Head (scope_of (record_of head) Upgrade) (facts_of (record_of head) Upgrade)))

framing_upgrades : (limits : Limits) (bytes text rest : List ℕ) (head : RequestHead) → IsFirstWithin EndsAsHead limits.max_head bytes text rest → IsHeadOf limits.max_headers text head
    → (f : Result Framing Refusal) → request_framing (record_of head) limits ≡ f → (after_framing (record_of head) f).place ≡ HandshakeEnd
    → GivesHandshake limits bytes rest (after_framing (record_of head) f).item
framing_upgrades limits bytes text rest head x is (Ok (Length n)) e p = cc
framing_upgrades limits bytes text rest head x is (Ok Chunked) e p = cc
framing_upgrades limits bytes text rest head x is (Ok Upgrade) e p = (head, record { text = text; text_is = x; head_is = is; framing_is = e }, refl)
framing_upgrades limits bytes text rest head x is (Err why) e p = cc

head_upgrades : (limits : Limits) (bytes text rest : List ℕ) → IsFirstWithin EndsAsHead limits.max_head bytes text rest → (o : Option HeadRecord) → ParsesHead limits.max_headers text o
    → (after_head limits o).place ≡ HandshakeEnd → GivesHandshake limits bytes rest (after_head limits o).item
head_upgrades limits bytes text rest x None parses p = cc
head_upgrades limits bytes text rest x (Some r) parses p =
    let T : HeadRecord → Type 0 = λ h. (after_head limits (Some h)).place ≡ HandshakeEnd → GivesHandshake limits bytes rest (after_head limits (Some h)).item in
    subst T (sym parses.2) (framing_upgrades limits bytes text rest parses.0 x parses.1 (request_framing (record_of parses.0) limits) refl) p

start_upgrades : (limits : Limits) (bytes rest : List ℕ) (turn : Judged) → Takes limits Start bytes turn rest → turn.place ≡ HandshakeEnd
    → GivesHandshake limits bytes rest turn.item
start_upgrades limits bytes rest turn takes p = by (front limits Start bytes) refl takes.splits takes.judged
  where
    by : (f : Front) → front limits Start bytes ≡ f → bytes ≡ front_text f ++ rest → Judges limits Start f turn → GivesHandshake limits bytes rest turn.item
    by (found text) e split j =
        let t = tells EndsAsHead head_len head_search_for limits.max_head bytes (found text) e in
        let T : Judged → Type 0 = λ x. x.place ≡ HandshakeEnd → GivesHandshake limits bytes rest x.item in
        subst T (sym j.2) (head_upgrades limits bytes text rest (t rest split) j.0 j.1) p
    by too_long e split j = absurd (let o = off turn (after_too_long Start) j (long_off Start) in o.0 p)
    by unfinished e split j = absurd j

-- ---- a run to the frames after an opening handshake

-- the run up to its head, and the turn that gives it
record ToHandshake (limits : Limits) (place : Place) (bytes : List ℕ) (items : List (Option Next)) (rest : List ℕ) : Type 0 where
  pub steps : List (Option Next)
  pub after : List ℕ
  pub item : Option Next
  pub reads : Reads limits place bytes steps Start after
  pub turn : Takes limits Start after (record { item = item; place = HandshakeEnd }) rest
  pub splits : items ≡ steps ++ (item ∷ Some Whole ∷ [])

-- the run stands after the handshake from the first, or after its head, or goes there
abbrev GoesUp : Limits → Place → List ℕ → List (Option Next) → List ℕ → Type 0
GoesUp limits place bytes items rest =
    ((place ≡ Upgraded) × (items ≡ []) × (bytes ≡ rest))
    ⊎ (((place ≡ HandshakeEnd) × (items ≡ Some Whole ∷ []) × (bytes ≡ rest)) ⊎ ToHandshake limits place bytes items rest)

end_rest : (limits : Limits) (bytes rest : List ℕ) (turn : Judged) → Takes limits HandshakeEnd bytes turn rest → bytes ≡ rest
end_rest limits bytes rest turn t = t.splits

step_up : (limits : Limits) (place : Place) (bytes : List ℕ) (item : Option Next) (items : List (Option Next)) (mid : Place) (middle rest : List ℕ)
    → Takes limits place bytes (record { item = item; place = mid }) middle → GoesUp limits mid middle items rest → GoesUp limits place bytes (item ∷ items) rest
unfolding LeadsUp
step_up limits place bytes item items mid middle rest t (inl x) =
    let turn : Judged = record { item = item; place = mid } in
    let leads = turn_leads limits place (front limits place bytes) turn t.judged in
    let up = leads.1 x.0 in
    let P : Place → Type 0 = λ p. Takes limits p bytes turn middle in
    let items_are : item ∷ items ≡ Some Whole ∷ [] = ap (λ (o : Option Next). o ∷ items) up.1 ∙ ap (λ (l : List (Option Next)). Some Whole ∷ l) x.1 in
    inr (inl (up.0, items_are, end_rest limits bytes middle turn (subst P up.0 t) ∙ x.2))
step_up limits place bytes item items mid middle rest t (inr (inl x)) =
    let turn : Judged = record { item = item; place = mid } in
    let leads = turn_leads limits place (front limits place bytes) turn t.judged in
    let start = leads.0 x.0 in
    let P : Place → Type 0 = λ p. Takes limits p bytes (record { item = item; place = mid }) middle in
    let M : Place → Type 0 = λ p. Takes limits Start bytes (record { item = item; place = p }) middle in
    let R : List ℕ → Type 0 = λ l. Takes limits Start bytes (record { item = item; place = HandshakeEnd }) l in
    inr (inr (record {
      steps = [];
      after = bytes;
      item = item;
      reads = (start, refl);
      turn = subst R x.2 (subst M x.0 (subst P start t));
      splits = ap (λ (l : List (Option Next)). item ∷ l) x.1;
    }))
step_up limits place bytes item items mid middle rest t (inr (inr x)) = inr (inr (record {
  steps = item ∷ x.steps;
  after = x.after;
  item = x.item;
  reads = (mid, middle, t, x.reads);
  turn = x.turn;
  splits = ap (λ (l : List (Option Next)). item ∷ l) x.splits;
}))

goes_up : (limits : Limits) (place : Place) (bytes : List ℕ) (items : List (Option Next)) (rest : List ℕ) → Reads limits place bytes items Upgraded rest
    → GoesUp limits place bytes items rest
goes_up limits place bytes [] rest r = inl (r.0, refl, r.1)
goes_up limits place bytes (item ∷ items) rest r = step_up limits place bytes item items r.0 r.1 rest r.2 (goes_up limits r.0 r.1 items rest r.3)

-- whole requests and then an opening handshake, and the frames after it
pub record IsUpgraded (limits : Limits) (bytes : List ℕ) (given : List Next) (rest : List ℕ) : Type 0 where
  pub requests : List (List Next)
  pub after : List ℕ
  pub last : List Next
  pub whole : AreRequests limits bytes requests after
  pub handshake : ReadsHandshake limits after last rest
  pub given_are : given ≡ flat_map (λ request. request) requests ++ last

-- if the frames of an opening handshake are due, the handshake was given after whole requests
pub upgraded_at : (limits : Limits) (bytes : List ℕ) (given : List Next) (held : List ℕ) → Reaches limits bytes given Upgraded held → IsUpgraded limits bytes given held
upgraded_at limits bytes given held x = by (goes_up limits Start bytes x.steps held x.reads)
  where
    by : GoesUp limits Start bytes x.steps held → IsUpgraded limits bytes given held
    by (inl y) = let never : Start ≡ Upgraded = y.0 in cc
    by (inr (inl y)) = let never : Start ≡ HandshakeEnd = y.0 in cc
    by (inr (inr y)) =
        let whole = whole_requests limits limits.block_in_range.0 bytes (shown y.steps) y.after (record { steps = y.steps; reads = y.reads; shows = refl }) in
        let h = start_upgrades limits y.after held (record { item = y.item; place = HandshakeEnd }) y.turn refl in
        let head = Head (scope_of (record_of h.0) Upgrade) (facts_of (record_of h.0) Upgrade) in
        record {
          requests = whole.0;
          after = y.after;
          last = head ∷ Whole ∷ [];
          whole = whole.1;
          handshake = record { head = h.0; head_is = h.1; results_are = refl };
          given_are = sym x.shows ∙ ap shown y.splits ∙ shown-append y.steps (y.item ∷ Some Whole ∷ [])
              ∙ ap (λ (o : Option Next). shown y.steps ++ shown (o ∷ Some Whole ∷ [])) h.2
              ∙ ap (λ (l : List Next). l ++ (head ∷ Whole ∷ [])) whole.2;
        }

-- ---- an opening handshake alone

pub handshake_alone : (limits : Limits) (bytes frames : List ℕ) (scope : Scope) (facts : Facts) → BeginsWithHandshake limits bytes scope facts frames
    → GivesResults limits bytes (Head scope facts ∷ Whole ∷ []) frames
handshake_alone limits bytes frames scope facts x = record {
  requests = [];
  after = bytes;
  last = Head scope facts ∷ Whole ∷ [];
  whole = refl;
  goes_on = inr (record {
    head = x.head;
    head_is = x.reads;
    results_are = ap (λ (s : Scope). Head s facts ∷ Whole ∷ []) x.scope_is ∙ ap (λ (k : Facts). Head (scope_of (record_of x.head) Upgrade) k ∷ Whole ∷ []) x.facts_are;
  });
  results_are = refl;
}

-- ---- its key

-- the first case does not hold if it would give something else
pass_by : {A : Type 0} (wanted : A) (b : Bool) (x y : A) → (x ≡ wanted → ⊥) → (if b then x else y) ≡ wanted → (b ≡ false) × (y ≡ wanted)
pass_by wanted true x y never e = absurd (never e)
pass_by wanted false x y never e = (refl, e)

positive : (b : Bool) → not b ≡ false → b ≡ true
positive true e = refl
positive false e = cc

second : (a b : Bool) → (a && b) ≡ true → b ≡ true
second true b e = e
second false b e = absurd cc

handshake_has_key : (head : HeadRecord) (body : Bool) → handshake_or_refusal head body ≡ Ok true → is_key (key_of head.headers) ≡ true
handshake_has_key head body e =
    let asks = pass_by (Ok true) (not (asks_for_websocket head)) (Ok false) _ (λ i. cc) e in
    let get = pass_by (Ok true) (not (bytes_eq head.method (codes "GET"))) (Err BadRequest) _ (λ i. cc) asks.1 in
    let bare = pass_by (Ok true) body (Err BadRequest) _ (λ i. cc) get.1 in
    let version = pass_by (Ok true) (not (has_version head.headers)) (Err UpgradeRequired) _ (λ i. cc) bare.1 in
    let key = pass_by (Ok true) (not (has_key head.headers)) (Err BadRequest) _ (λ i. cc) version.1 in
    second (count_named head.headers (codes "sec-websocket-key") == 1) (is_key (key_of head.headers)) (positive (has_key head.headers) key.0)

-- a body is never framed as an opening handshake
framed : Bool → ℕ → Result Framing Refusal
framed coded n = if coded then Ok Chunked else Ok (Length n)

no_upgrade_by : (coded : Bool) (n : ℕ) → framed coded n ≡ Ok Upgrade → ⊥
unfolding framed
no_upgrade_by true n e = cc
no_upgrade_by false n e = cc

length_is_plain : (version : HttpVersion) (fields : List HeaderField) (max_body : ℕ) → body_length version fields max_body ≡ Ok Upgrade → ⊥
unfolding framed
length_is_plain version fields max_body e =
    let both = pass_by (Ok Upgrade) (has_length fields && has_coding fields) (Err BadRequest) _ (λ i. cc) e in
    let two = pass_by (Ok Upgrade) (nat_lt 1 (count_named fields (codes "content-length"))) (Err BadRequest) _ (λ i. cc) both.1 in
    let none = pass_by (Ok Upgrade) (has_length fields && is_missing (content_length fields)) (Err BadRequest) _ (λ i. cc) two.1 in
    let old = pass_by (Ok Upgrade) (has_coding fields && not (is_v11 version)) (Err BadRequest) _ (λ i. cc) none.1 in
    let other = pass_by (Ok Upgrade) (has_coding fields && not (is_chunked fields)) (Err NotImplemented) _ (λ i. cc) old.1 in
    let large = pass_by (Ok Upgrade) (exceeds (content_length fields) max_body) (Err ContentTooLarge) _ (λ i. cc) other.1 in
    no_upgrade_by (has_coding fields) (unwrap_or (content_length fields) 0) large.1

framing_is_plain : (head : HeadRecord) (limits : Limits) → framing_or_refusal head limits ≡ Ok Upgrade → ⊥
framing_is_plain head limits e =
    let tunnel = pass_by (Ok Upgrade) (bytes_eq head.method (codes "CONNECT")) (Err NotImplemented) _ (λ i. cc) e in
    let target = pass_by (Ok Upgrade) (not (is_target head.method head.target)) (Err BadRequest) _ (λ i. cc) tunnel.1 in
    let host = pass_by (Ok Upgrade) (lacks_host head) (Err BadRequest) _ (λ i. cc) target.1 in
    length_is_plain head.version head.headers limits.max_body host.1

upgraded_by : (head : HeadRecord) (limits : Limits) (framing : Framing) → framing_or_refusal head limits ≡ Ok framing → (h : Result Bool Refusal)
    → handshake_or_refusal head (has_body framing) ≡ h → frames_or framing h ≡ Ok Upgrade → is_key (key_of head.headers) ≡ true
upgraded_by head limits framing f (Ok true) h e = handshake_has_key head (has_body framing) h
upgraded_by head limits framing f (Ok false) h e = absurd (framing_is_plain head limits (f ∙ e))
upgraded_by head limits framing f (Err why) h e = cc

upgrade_has_key : (head : HeadRecord) (limits : Limits) (o : Result Framing Refusal) → framing_or_refusal head limits ≡ o → upgraded head o ≡ Ok Upgrade
    → is_key (key_of head.headers) ≡ true
upgrade_has_key head limits (Ok framing) f e = upgraded_by head limits framing f (handshake_or_refusal head (has_body framing)) refl e
upgrade_has_key head limits (Err why) f e = cc

pub handshake_key : (limits : Limits) (bytes frames : List ℕ) (scope : Scope) (facts : Facts) → BeginsWithHandshake limits bytes scope facts frames → is_key facts.key ≡ true
handshake_key limits bytes frames scope facts x =
    let r = record_of x.head in
    let reads = x.reads in
    ap (λ (f : Facts). is_key f.key) x.facts_are ∙ upgrade_has_key r limits (framing_or_refusal r limits) refl reads.framing_is
