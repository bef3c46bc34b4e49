use Rattle.query_tool.proofs.serving.EngineQueryEngine.write_in.Goals as goal

-- in the mode `Session` the text that was put answers the request in the line
pub returns-in-Session-clause-ok : goal.returns-in-Session-clause-ok
returns-in-Session-clause-ok g c = rw c.in-Session.is c.write_request.ensures.ok

-- in the mode `Session` a fault leaves a front of the answer to the request
pub returns-in-Session-clause-fault : goal.returns-in-Session-clause-fault
returns-in-Session-clause-fault g c = rw c.in-Session.is c.write_request.ensures.fault
