use Rattle.asgi_response.proofs.laws.denials_are_responses.Goals as goal
use Rattle.asgi_response.proofs.DenialLemmas.{is_lawful_response, is_response_text}

pub returns-clause-lawful : goal.returns-clause-lawful
returns-clause-lawful c facts status headers bodies lawful = is_lawful_response facts status headers bodies lawful

pub returns-clause-text : goal.returns-clause-text
returns-clause-text c facts status headers bodies lawful = is_response_text facts status headers bodies lawful
