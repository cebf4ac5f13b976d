use Rattle.asgi_many.proofs.TableLemmas as lemma
use Rattle.asgi_many.proofs.laws.each_has_one_report.Goals as goal

pub returns : goal.returns
returns g c app state came table ended holds empty = lemma.all_ended _ _ _ _ _ _ _ _ came table ended holds empty
