use Rattle.asgi_halves.proofs.half.HttpHalf.drop_one.Goals as goal

pub returns-clause-gives : goal.returns-clause-gives
returns-clause-gives c read opened framing arrived events o given ends = (events, given, ends)
