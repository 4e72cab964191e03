-- What the definitions see of the walks over a source.
use Rattle.std.specs.Prelude.{ℕ}
use Rattle.std.specs.BTreeMap.{get_by_text}
use Rattle.n2_asm.specs.declared.survey.Survey.{Survey}
use Rattle.n2_asm.specs.Survey.{Surveyed}
use Rattle.n2_asm.specs.declared.output.Builder.{Builder}
use Rattle.n2_asm.specs.declared.objects.Object.{Object}
use Rattle.n2_asm.specs.Sources.{Output, Assembled}

abbrev pub survey_seen : Survey → Surveyed
survey_seen s = record { here = s.here; names = get_by_text s.names; repeated = s.repeated }

abbrev pub output_seen : Builder → Output
output_seen b = record { closed = b.closed; opened = b.opened; at = b.at; exec = b.exec; bytes = b.bytes.items; room = b.room; labels = get_by_text b.labels }

abbrev pub object_seen : Object → Assembled
object_seen o = record { image = o.image; labels = get_by_text o.labels }
