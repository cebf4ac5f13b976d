-- However a connection ends in an exchange, what is written there is a prefix of the text of the exchange.
use Rattle.std.proofs.Common.{◌≡◌, ℕ, List, [], ◌∷◌, ◌++◌, take, drop, refl, sym, ap, ◌∙◌, append_assoc, subst, Option, take-append-drop}
use mathlib.Core.List.{IsPrefix}
use Rattle.asgi_types.specs.declared.end_kind.EndKind.{EndKind}
use Rattle.asgi_types.specs.declared.outgoing.Outgoing.{Outgoing}
use Rattle.asgi_request.specs.ChunkedBody.{BodyState}
use Rattle.asgi_response.specs.Response.{response_text}
use Rattle.asgi_exchange.specs.ExchangeTexts.{input_of}
use Rattle.asgi_exchange.specs.ExchangeTexts.{text_of}
use Rattle.asgi_exchange.proofs.ListLemmas.{prefix_after}
use Rattle.asgi_pipes.proofs.PrefixLemmas.{prefix_trans, prefix_same}
use Rattle.asgi_conversation.specs.declared.report.Outcome.{Outcome}
use Rattle.asgi_conversation.specs.OutcomeClasses.{OutcomeClass, Uncut, ByWrite, GivenUp, Lacking, Unbegun, class_of}
use Rattle.asgi_conversation.specs.declared.input.InputEnd.{InputEnd}
use Rattle.asgi_conversation.specs.Exchanges.{out_text}
use Rattle.asgi_conversation.specs.ExchangeRecord.{ExchangeRecord}
use Rattle.asgi_conversation.specs.Persistence.{InHand, StopsWithin, EndsWithin, EndsWithinAs}
use Rattle.asgi_conversation.specs.ExchangeRecord.{Beginning, Saying, Ending}
use Rattle.asgi_conversation.proofs.SoFarLemmas.{text_front, response_first}

module _ (x : ExchangeRecord) (state : BodyState) where
  -- the text of some of the events comes first
  events_first : (taken : List Outgoing) → IsPrefix taken x.said → IsPrefix (response_text x.facts taken) (out_text x (input_of state))
  events_first taken p =
      prefix_trans (response_text x.facts taken) (response_text x.facts x.said) (out_text x (input_of state)) (text_front x.facts taken x.said p) (response_first x state)

  in_hand_first : (out text : List ℕ) → InHand x (input_of state) out text → IsPrefix (out ++ text) (out_text x (input_of state))
  in_hand_first out text (Beginning o t) =
      let e : out ++ text ≡ response_text x.facts [] = ap (λ (l : List ℕ). l ++ text) o ∙ t in
      prefix_trans (out ++ text) (response_text x.facts []) (out_text x (input_of state)) (prefix_same (out ++ text) (response_text x.facts []) e) (events_first [] (x.said, refl))
  in_hand_first out text (Saying before after event split o adds) =
      let e : out ++ text ≡ response_text x.facts (before ++ event ∷ []) = sym adds in
      prefix_trans (out ++ text) (response_text x.facts (before ++ event ∷ [])) (out_text x (input_of state))
      (prefix_same (out ++ text) (response_text x.facts (before ++ event ∷ [])) e)
      (events_first (before ++ event ∷ []) (after, append_assoc before (event ∷ []) after ∙ sym split))
  in_hand_first out text (Ending kind ended o t) =
      prefix_same (out ++ text) (out_text x (input_of state))
      (ap (λ (l : List ℕ). l ++ text) o ∙ ap (λ (l : List ℕ). response_text x.facts x.said ++ l) t
      ∙ sym (ap (λ (k : Option EndKind). text_of x.facts x.said k (input_of state)) ended))

  stopped_first : (n : ℕ) (written : List ℕ) → StopsWithin n x (input_of state) written → IsPrefix written (out_text x (input_of state))
  stopped_first n written s =
      let part : IsPrefix (s.out ++ take n s.more) (s.out ++ s.more) = prefix_after s.out (take n s.more) s.more (drop n s.more, take-append-drop n s.more) in
      subst (λ (l : List ℕ). IsPrefix l (out_text x (input_of state))) (sym s.written_is)
      (prefix_trans (s.out ++ take n s.more) (s.out ++ s.more) (out_text x (input_of state)) part (in_hand_first s.out s.more s.is_next))

  pub written_first : (outcome : Outcome) (end : InputEnd) (text : List ℕ) → EndsWithin outcome end x state text → IsPrefix text (out_text x (input_of state))
  written_first outcome end text e = by (class_of outcome) e
    where
      by : (k : OutcomeClass) → EndsWithinAs k outcome end x state text → IsPrefix text (out_text x (input_of state))
      by Uncut e = prefix_same text (out_text x (input_of state)) e.0.1
      by (ByWrite n) e = stopped_first n text e
      by GivenUp e = e
      by Lacking e = e
      by Unbegun e = absurd e
