-- What passed over a line after one more text, and after one more call of its session.
use Rattle.std.proofs.Common.{◌≡◌, ℕ, ◌+◌, ◌≤◌, Bool, false, ◌||◌, List, [], ◌∷◌, ◌++◌, length, refl, sym, ap, ◌∙◌, subst, append_assoc, append-nil, Option, Some, None, arith}
use Rattle.std.specs.{Io.KnownBytes.Appends, List.count_by}
use Rattle.asgi_io.specs.{Counting.RoseBy, Writing.TriesWrites}
use Rattle.asgi_io.proofs.CountLemmas.{rose_after}
use Rattle.asgi_ws.specs.{Lines.LineState, Sides.Session, declared.messages.Got.Got, declared.messages.Put.Put, declared.messages.Msg.Msg, declared.messages.SentMessage.SentMessage}
use Rattle.asgi_ws.specs.declared.messages.Call.{Call, TheVariants.Read, TheVariants.Send}
use Rattle.asgi_ws.specs.Sessions.{given_by, taken_by, read_by, sent_by, is_failed, has_failed, count_after, kept_by, reads_after_close, Loses}
use Rattle.asgi_ws.proofs.ListLemmas.{given_after}
use Rattle.asgi_conversation.specs.{Sessions.SessionTraffic, Sessions.no_traffic, declared.input.InputEnd.InputEnd}
use Rattle.asgi_run.specs.Lines.{Transferred, how_wrote}
use Rattle.asgi_run.proofs.LineLemmas.{moved_by_write}
use Rattle.asgi_halves.specs.Traffic.{FailsAs, HasCarried, drop_limit, in_session, in_text, is_end, is_failed_send, says_over, kept_with, text_of_line}
use Rattle.asgi_halves.specs.WebSocketHalf.{CarriesOn}
use Rattle.asgi_halves.proofs.CallLemmas.{end_send, fails_after, failures_by, none_after_end, none_fails_after, send_after, or_none}

-- ---- lists and counts

says_append : (calls more : List Call) → says_over (calls ++ more) ≡ (says_over calls || says_over more)
says_append [] more = refl
says_append (Read first ∷ calls) more = grind (arith, says_append calls more)
says_append (Send item first ∷ calls) more = says_append calls more

loses_nothing : (all : Option (List Msg)) → Loses all all []
loses_nothing all = grind arith

loses_then : (a b c : Option (List Msg)) (front more : List Msg) → Loses a b front → Loses b c more → Loses a c (front ++ more)
loses_then a b c front more x y = grind (arith, append_assoc {A = Msg})

-- where no call failed, none did of either kind
none_of : (kept : Option (List ℕ)) → (in_text kept 0 ≡ 0) × (in_session kept 0 ≡ 0)
none_of kept = (grind arith, grind arith)

-- ---- one step

pub talk_silent : (start now : LineState) (end : InputEnd) (read before : List ℕ) (failures : ℕ) → Transferred start now end read before failures
    → HasCarried start now end read before failures no_traffic
talk_silent start now end read before failures x =
    let moved = subst (λ (s : Session). Transferred start (record now { session = s }) end read before failures) x.quiet x in
    let told = ap (λ (s : Session). s.calls) x.quiet ∙ sym (append-nil start.session.calls) in
    let comes = subst (λ (s : Session). Loses start.session.coming s.coming []) (sym x.quiet) (loses_nothing start.session.coming) in
    search (moved, told, comes, ap (λ (s : Session). s.leftover) x.quiet, arith)

pub talk_begins : (start now : LineState) (end : InputEnd) (read before : List ℕ) (spare : ℕ) → spare ≤ drop_limit → Transferred start now end read before 0
    → CarriesOn start now end read before 0 no_traffic spare
unfolding talk_silent
talk_begins start now end read before spare within x =
    let none : 0 + spare ≤ drop_limit = omega (arith, within) in
    record { carried = talk_silent start now end read before 0 x; within = none }

-- one more text
pub talk_written : (start was now : LineState) (end : InputEnd) (read before text more : List ℕ) (failures : ℕ) (traffic : SessionTraffic) (spare : ℕ)
    → CarriesOn start was end read (before ++ text) 0 traffic spare → traffic.leftover ≡ None → now.left ≡ was.left → now.reads ≡ was.reads → now.session ≡ was.session
    → Appends was.written now.written more → RoseBy failures was.failed now.failed → TriesWrites was.writes now.writes (length more) (how_wrote failures (length more))
    → CarriesOn start now end read (before ++ (text ++ more)) failures traffic spare
talk_written start was now end read before text more failures traffic spare on none same_left same_reads same_session appends rose tries =
    let x = on.carried in
    let before_it : Transferred start (text_of_line start was) end read (before ++ text) 0 = rw none at x.moved in
    let after = moved_by_write start (text_of_line start was) (text_of_line start now) end read (before ++ text) more failures before_it same_left same_reads refl appends rose tries in
    let moved : Transferred start (text_of_line start now) end read ((before ++ text) ++ more) (in_text traffic.leftover failures) = rw none after in
    let fails : FailsAs (in_session traffic.leftover failures) x.calls = rw none (rw none at x.fails) in
    rw (← append_assoc before text more) (subst (λ (s : Session). CarriesOn start (record now { session = s }) end read ((before ++ text) ++ more) failures traffic spare) (sym same_session)
    (record { carried = search (moved, fails, x, x.quiet); within = on.within }))

-- a call of a session leaves the text
pub record LeavesText (was now : LineState) : Type 0 where
  pub left : now.left ≡ was.left
  pub written : now.written ≡ was.written
  pub reads : now.reads ≡ was.reads
  pub writes : now.writes ≡ was.writes

module _ (start was now : LineState) (end : InputEnd) (read text : List ℕ) (failures : ℕ) (unfailed : failures ≡ 0) (traffic later : SessionTraffic) (spare : ℕ)
    (on : CarriesOn start was end read text failures traffic spare) (same : LeavesText was now) where
  text_stays : (fails : Bool) → now.failed ≡ count_after was.failed fails → Transferred start (text_of_line start now) end read text 0
  text_stays fails count =
      let x : Transferred start (text_of_line start was) end read text 0 = rw (unfailed, (none_of traffic.leftover).0) at on.carried.moved in
      let failed = rose_after 0 start.failed was.failed now.failed x.failed (grind arith) in
      rw (same.left, same.reads, same.written, same.writes) (search (failed, x))

  none_before : count_by is_failed_send on.carried.calls ≡ 0
  none_before = rw (unfailed, (none_of traffic.leftover).1) at on.carried.fails

  -- one more read of a message
  pub talk_read : (answer : Got) → traffic.is_over ≡ false → now.session.calls ≡ was.session.calls ++ Read answer ∷ [] → Loses was.session.coming now.session.coming (given_by answer)
      → now.failed ≡ count_after was.failed (is_failed answer) → now.session.leftover ≡ was.session.leftover
      → later.received ≡ traffic.received ++ given_by answer → later.is_over ≡ (traffic.is_over || is_end answer) → later.handed ≡ traffic.handed → later.leftover ≡ traffic.leftover
      → (left : ℕ) → reads_after_close (on.carried.calls ++ Read answer ∷ []) + left ≤ drop_limit → (bytes : List ℕ) → later.leftover ≡ Some bytes
      → CarriesOn start now end read text 0 later left
  talk_read answer goes_on told loses count kept received over handed leftover left within bytes carries = record {
    carried = record {
      moved = rw carries (text_stays (is_failed answer) count);
      fails = rw carries (none_fails_after on.carried.calls answer none_before);
      calls = on.carried.calls ++ Read answer ∷ [];
      told = rw (told, on.carried.told, append_assoc);
      unread = none_after_end on.carried.calls answer (sym on.carried.over ∙ goes_on);
      received = rw (received, on.carried.received, given_after read_by on.carried.calls (Read answer));
      over = rw (over, on.carried.over, says_append on.carried.calls (Read answer ∷ []), or_none (is_end answer));
      handed = rw (handed, on.carried.handed, given_after sent_by on.carried.calls (Read answer), append-nil);
      few = omega (arith, within);
      coming = rw received (loses_then start.session.coming was.session.coming now.session.coming traffic.received (given_by answer) on.carried.coming loses);
      kept = kept ∙ on.carried.kept ∙ ap (kept_with start.session.leftover) (sym leftover);
      quiet = λ none. cc (none, carries);
    };
    within = within;
  }

  -- one more message that was handed over
  pub talk_sent : (item : SentMessage) (answer : Put) → now.session.calls ≡ was.session.calls ++ Send item answer ∷ [] → now.failed ≡ count_after was.failed (has_failed answer)
      → now.session.coming ≡ was.session.coming → now.session.leftover ≡ was.session.leftover
      → later.handed ≡ traffic.handed ++ taken_by item answer → later.received ≡ traffic.received → later.is_over ≡ traffic.is_over → later.leftover ≡ traffic.leftover
      → (bytes : List ℕ) → later.leftover ≡ Some bytes → CarriesOn start now end read text (failures_by answer) later spare
  talk_sent item answer told count coming kept handed received over leftover bytes carries =
      let within : reads_after_close (on.carried.calls ++ Send item answer ∷ []) + spare ≤ drop_limit = rw (send_after on.carried.calls item answer) on.within in
      record {
        carried = record {
          moved = rw carries (text_stays (has_failed answer) count);
          fails = rw carries (fails_after on.carried.calls item answer none_before);
          calls = on.carried.calls ++ Send item answer ∷ [];
          told = rw (told, on.carried.told, append_assoc);
          unread = end_send on.carried.calls item answer ∙ on.carried.unread;
          received = rw (received, on.carried.received, given_after read_by on.carried.calls (Send item answer), append-nil);
          over = rw (over, on.carried.over, says_append on.carried.calls (Send item answer ∷ []), or_none (says_over on.carried.calls));
          handed = rw (handed, on.carried.handed, given_after sent_by on.carried.calls (Send item answer));
          few = omega (arith, within);
          coming = rw (received, coming) on.carried.coming;
          kept = kept ∙ on.carried.kept ∙ ap (kept_with start.session.leftover) (sym leftover);
          quiet = λ none. cc (none, carries);
        };
        within = within;
      }

  -- the line carries messages from here on
  pub talk_upgraded : (bytes : List ℕ) → traffic.leftover ≡ None → now.session.leftover ≡ kept_by was.session.leftover bytes → now.failed ≡ was.failed
      → now.session.calls ≡ was.session.calls → now.session.coming ≡ was.session.coming
      → later.leftover ≡ Some bytes → later.handed ≡ traffic.handed → later.received ≡ traffic.received → later.is_over ≡ traffic.is_over
      → CarriesOn start now end read text 0 later spare
  talk_upgraded bytes none kept count calls coming leftover handed received over =
      let moved : Transferred start (text_of_line start now) end read text (in_text later.leftover 0) = rw leftover (text_stays false count) in
      let fails : FailsAs (in_session later.leftover 0) on.carried.calls = rw leftover none_before in
      let comes : Loses start.session.coming now.session.coming later.received = rw (received, coming) on.carried.coming in
      let keeps : now.session.leftover ≡ kept_with start.session.leftover later.leftover = rw (kept, on.carried.kept, none, leftover) in
      let quiet : later.leftover ≡ None → on.carried.calls ≡ [] = λ absent. cc (absent, leftover) in
      let x = on.carried in
      record { carried = search (moved, fails, calls ∙ x.told, received ∙ x.received, over ∙ x.over, handed ∙ x.handed, comes, keeps, quiet, x); within = on.within }
