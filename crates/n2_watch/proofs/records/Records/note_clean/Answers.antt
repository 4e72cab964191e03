use Rattle.std.proofs.Common.{ap}
use Rattle.n2_watch.specs.Past.{covers}
use Rattle.n2_watch.proofs.records.Records.note_clean.Goals as goal

pub returns-in-Initd-clause-stands : goal.returns-in-Initd-clause-stands
returns-in-Initd-clause-stands c = λ map past h.
    c.note_clean_set.ensures.stands map past c.args.op c.args.address c.line_of-line.ensures (λ sets other. ap (λ o. covers sets o c.args.address other) c.in-Initd.is) h

pub returns-in-Initda-clause-stands : goal.returns-in-Initda-clause-stands
returns-in-Initda-clause-stands c = λ map past h.
    c.note_clean_line.ensures.stands map past c.args.op c.args.address c.line_of-line.ensures (λ sets other. ap (λ o. covers sets o c.args.address other) c.in-Initda.is) h

pub returns-in-Flushd-clause-stands : goal.returns-in-Flushd-clause-stands
returns-in-Flushd-clause-stands c = λ map past h.
    c.note_clean_set-in-Flushd.ensures.stands map past c.args.op c.args.address c.line_of-line.ensures (λ sets other. ap (λ o. covers sets o c.args.address other) c.in-Flushd.is) h

pub returns-in-Flushda-clause-stands : goal.returns-in-Flushda-clause-stands
returns-in-Flushda-clause-stands c = λ map past h.
    c.note_clean_line-in-Flushda.ensures.stands map past c.args.op c.args.address c.line_of-line.ensures (λ sets other. ap (λ o. covers sets o c.args.address other) c.in-Flushda.is) h
