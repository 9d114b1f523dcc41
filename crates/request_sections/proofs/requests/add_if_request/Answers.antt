use Rattle.request_sections.proofs.requests.add_if_request.Goals as goal

pub returns-in-Asked : goal.returns-in-Asked
returns-in-Asked c = rw c.in-Asked.is c.add_found.ensures
