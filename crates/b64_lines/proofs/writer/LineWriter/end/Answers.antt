use Rattle.std.proofs.Common.{sym, take, arith}
use Rattle.std.proofs.lemmas.List.{length-take}
use Rattle.b64_lines.proofs.WriterLemmas.{end_room, end_written}
use Rattle.b64_lines.proofs.writer.LineWriter.end.Goals as goal

pub put_encoded-requires-clause-room : goal.put_encoded-requires-clause-room
put_encoded-requires-clause-room c =
    let long = length-take c.self.inside.kept c.self.inside.line in
    let low = c.self.invariant.1 in
    end_room c.args.self c.self.inside.form c.self.inside.at (take c.self.inside.kept c.self.inside.line) c.requires.room.0 c.args.into.now (sym c.self.view_is) c.self.invariant.0 c.requires.room.1 (omega (arith, long, low)) c.requires.room.2

pub returns-clause-written : goal.returns-clause-written
returns-clause-written c = λ given h.
    let long = length-take c.self.inside.kept c.self.inside.line in
    let low = c.self.invariant.1 in
    end_written c.args.self c.self.inside.form c.self.inside.at (take c.self.inside.kept c.self.inside.line) given c.args.into.now c.put_encoded.result c.put_encoded.new.into (sym c.self.view_is) c.self.invariant.0 h (omega (arith, long, low))
    c.put_encoded.ensures.put c.put_encoded.ensures.end
