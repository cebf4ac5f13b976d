use Rattle.asgi_ws.proofs.session.read_next.Goals as goal

pub returns : goal.returns
returns g c = (
  c.read-given.result,
  c.read-given.new.self,
  c.read-given.ensures,
  rw c.get_ref.ensures at c.answer_to.ensures,
  rw c.code_of.ensures at c.tell_why-stands.ensures,
)
