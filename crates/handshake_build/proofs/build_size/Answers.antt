-- `handshake_build::build_size` meets its contract: each answer is the definition's, by the tests that led to it.
use Rattle.std.proofs.Common.{arith, ◌≡◌, sym, ap, ◌∙◌, length, le-leb, true, false}
use Rattle.std.proofs.lemmas.Bool.{lt-leb}
use Rattle.wire.specs.Bytes.{every}
use Rattle.wire.specs.Output.{sized, Bytes}
use Rattle.vlq_utf8.specs.Utf8.{utf8}
use Rattle.vlq.specs.ShortString.{max_short_string}
use Rattle.handshake.specs.Value.{handshake_bytes, short_strings, utf8_strings, entries_asked}
use Rattle.handshake.specs.Writes.{built}
use Rattle.handshake_build.specs.Parts.{config_of, built_size, BuildReady}
use Rattle.handshake_build.specs.PartsLaws.{length-head, length-built, built_bytes_lem}
use Rattle.handshake_build.proofs.build_size.Goals as goal
use Rattle.handshake_build.proofs.build_size.Goals.{then-agent-gt-MAX_SHORT_STRING-via-then-agent-gt-MAX_SHORT_STRING, then-agent-gt-MAX_SHORT_STRING-via-else-agent-gt-MAX_SHORT_STRING+then-name-gt-MAX_SHORT_STRING, then-not-is_utf8-via-then-not-is_utf8, then-not-is_utf8-via-else-not-is_utf8+then-not-is_utf8-2}

pub returns-then-agent-gt-MAX_SHORT_STRING : goal.returns-then-agent-gt-MAX_SHORT_STRING
unfolding built_size entries_asked sized every short_strings utf8_strings built
returns-then-agent-gt-MAX_SHORT_STRING c =
    elim c.then-agent-gt-MAX_SHORT_STRING.branch [
      | then-agent-gt-MAX_SHORT_STRING-via-then-agent-gt-MAX_SHORT_STRING w ↦ rw (lt-leb (length c.args.agent.now) max_short_string (omega arith))
      | then-agent-gt-MAX_SHORT_STRING-via-else-agent-gt-MAX_SHORT_STRING+then-name-gt-MAX_SHORT_STRING w ↦
          let agent = le-leb (length c.args.agent.now) max_short_string (omega arith) in
          let name = lt-leb (length c.args.name.now) max_short_string (omega arith) in
          rw (agent, name)
    ]

pub returns-then-not-is_utf8 : goal.returns-then-not-is_utf8
unfolding built_size entries_asked sized every short_strings utf8_strings built
returns-then-not-is_utf8 c =
    let agent = le-leb (length c.args.agent.now) max_short_string (omega arith) in
    let name = le-leb (length c.args.name.now) max_short_string (omega arith) in
    elim c.then-not-is_utf8.branch [
      | then-not-is_utf8-via-then-not-is_utf8 w ↦
          let fails : utf8 c.args.agent.now ≡ false = sym c.is_utf8.ensures ∙ w.if-not-is_utf8.true in
          rw (agent, name, fails)
      | then-not-is_utf8-via-else-not-is_utf8+then-not-is_utf8-2 w ↦
          let holds : utf8 c.args.agent.now ≡ true = sym c.is_utf8.ensures ∙ w.if-not-is_utf8.false in
          let fails : utf8 c.args.name.now ≡ false = sym w.is_utf8-else-not-is_utf8.ensures ∙ w.if-not-is_utf8-2.true in
          rw (agent, name, holds, fails)
    ]

pub returns : goal.returns
returns c =
    let ready : BuildReady c.args.agent.now c.args.name.now = record {
      shortagent = omega arith;
      shortname = omega arith;
      utfagent = sym c.is_utf8.ensures ∙ c.if-not-is_utf8.false;
      utfname = sym c.is_utf8-else-not-is_utf8.ensures ∙ c.if-not-is_utf8-2.false;
    } in
    let head = length-head c.args.config c.args.agent.now c.args.name.now in
    let size : c.build_len.result ≡ length (handshake_bytes (built (config_of c.args.config c.args.agent.now c.args.name.now))) =
    omega (arith, c.build_len.ensures.0, length-built c.args.config c.args.agent.now c.args.name.now, head) in
    ap Bytes size ∙ sym (built_bytes_lem c.args.config c.args.agent.now c.args.name.now c.build_len.ensures.1 c.build_len.ensures.2 ready)
