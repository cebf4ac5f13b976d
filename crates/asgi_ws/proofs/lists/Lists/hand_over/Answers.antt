use Rattle.std.proofs.Common.{[], ◌∷◌, ◌++◌, ap, sym, ◌∙◌, append-nil}
use Rattle.asgi_ws.specs.declared.messages.Call.TheVariants as call
use Rattle.asgi_ws.specs.Sessions.{read_by, sent_by, taken_by}
use Rattle.asgi_ws.proofs.ListLemmas.{kept_after, pushed}
use Rattle.asgi_ws.proofs.lists.Lists.hand_over.Goals as goal

pub invariant_of-self : goal.invariant_of-self
invariant_of-self c =
    let send = call.Send c.args.item c.answer_to-answer.result in
    let told = c.note_send-item.ensures.told in
    record {
      read = kept_after read_by _ _ send _ _ c.args.self.now.read told (sym (append-nil c.args.self.now.received.items));
      sent = kept_after sent_by _ _ send _ _ c.args.self.now.sent told
          (c.push.ensures.items ∙ pushed c.push.result _ _ (c.push.ensures.succeeds (c.answer_to-answer.ensures.room c.in-Done.is))
          ∙ ap (λ item. c.answer_to-answer.new.items.items ++ item ∷ []) c.note_send-item.ensures.item
          ∙ sym (ap (λ a. c.answer_to-answer.new.items.items ++ taken_by c.args.item a) c.in-Done.is)
          ∙ ap (λ l. l ++ taken_by c.args.item c.answer_to-answer.result) c.answer_to-answer.ensures.items);
    }

pub invariant_of-self-in-Failed-1 : goal.invariant_of-self-in-Failed-1
invariant_of-self-in-Failed-1 c =
    let send = call.Send c.args.item c.answer_to-answer.result in
    let told = c.note_send-item.ensures.told in
    record {
      read = kept_after read_by _ _ send _ _ c.args.self.now.read told (sym (append-nil c.args.self.now.received.items));
      sent = kept_after sent_by _ _ send _ _ c.args.self.now.sent told
          (c.answer_to-answer.ensures.items ∙ sym (append-nil c.args.self.now.handed.items) ∙ sym (ap (λ a. c.args.self.now.handed.items ++ taken_by c.args.item a) c.in-Failed.is));
    }

pub invariant_of-self-in-NoMemory-1 : goal.invariant_of-self-in-NoMemory-1
invariant_of-self-in-NoMemory-1 c =
    let send = call.Send c.args.item c.answer_to-answer.result in
    let told = c.note_send-item.ensures.told in
    record {
      read = kept_after read_by _ _ send _ _ c.args.self.now.read told (sym (append-nil c.args.self.now.received.items));
      sent = kept_after sent_by _ _ send _ _ c.args.self.now.sent told
          (c.answer_to-answer.ensures.items ∙ sym (append-nil c.args.self.now.handed.items) ∙ sym (ap (λ a. c.args.self.now.handed.items ++ taken_by c.args.item a) c.in-NoMemory.is));
    }
