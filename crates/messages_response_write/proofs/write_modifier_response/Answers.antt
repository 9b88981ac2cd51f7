-- `messages_response_write::write_modifier_response` meets its contract: the questions were answered by sizes, and the
-- frame was stored once all held.
use mathlib.Core.Path.{refl, ◌∙◌}
use lib.ListN.{length}
use Rattle.std.proofs.lemmas.Result.{err_from_is_err_and}
use Rattle.messages.specs.Value.{code_of}
use Rattle.messages.specs.Writes.{value_of}
use Rattle.wire.specs.Output.{output_after}
use Rattle.messages_response_write.proofs.ResponseLaws.{said-response, asked-response}
use Rattle.messages_response_write.proofs.write_modifier_response.Goals as goal

pub put_response-requires : goal.put_response-requires
put_response-requires c =
    let e = asked-response c.args.modifier_type c.args.payloads.now c.args.buffer.now (length c.args.out.now) c.args.at c.in_ok-end.ensures refl in
    record { payloads_value = e.0; buffer_len_bound = e.1.0; buffer_in_bounds = e.1.1 }

pub returns : goal.returns
unfolding value_of code_of output_after
returns c =
    record {
      value = c.in_ok-end.ensures ∙ said-response c.args.network c.args.modifier_type c.args.payloads.now c.args.buffer.now c.args.out.now c.args.at;
      out_after = c.put_response.ensures;
    }

pub returns-in_err-end : goal.returns-in_err-end
unfolding output_after
returns-in_err-end c =
    let p = err_from_is_err_and c.from_residual.result c.from_residual.ensures.1 in
    let e = c.in_err-end.ensures ∙ said-response c.args.network c.args.modifier_type c.args.payloads.now c.args.buffer.now c.args.out.now c.args.at in
    record { value = rw (p.1, p.2) e; out_after = rw (p.1) refl }
