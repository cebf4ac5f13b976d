use Rattle.std.proofs.Common.{◌≡◌, take, sym, ◌∙◌, arith}
use Rattle.asgi_request.specs.Head.{version_of}
use Rattle.asgi_request.proofs.RecordLemmas.{same_fields, version_of-zero, version_of-above}
use Rattle.asgi_request.proofs.head.record_of.Goals as goal
use Rattle.asgi_request.proofs.head.record_of.Goals.{then-request-eq0, else-request-eq0}

pub returns : goal.returns
returns c h at =
    let fields = same_fields c.args.text.now (take c.args.request.now.headers c.args.spans.now) h.fields at.fields in
    let version : c.if-request-eq0.version ≡ version_of h.minor = elim c.if-request-eq0.branch [
      | then-request-eq0 w ↦ w.version-is ∙ sym (version_of-zero h.minor (omega (arith, at.version, w.if-request-eq0.true)))
      | else-request-eq0 w ↦ w.version-is ∙ sym (version_of-above h.minor (omega (arith, at.version, w.if-request-eq0.false)))
    ] in
    cc (fields, version, at.path, at.method, c.in_ok-headers.ensures, c.in_ok-method.ensures, c.in_ok-target.ensures.items, c.of.ensures, c.of-2.ensures, c.new.ensures)
