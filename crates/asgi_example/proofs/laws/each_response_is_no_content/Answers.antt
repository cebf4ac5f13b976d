use Rattle.asgi_example.proofs.laws.each_response_is_no_content.Goals as goal

pub returns : goal.returns
returns c = λ limits client server state old new before after report served. served.promised
