-- The names of a type stand for that type.
use Rattle.std.proofs.Common.{refl}
use Rattle.ent_values.specs.Types.{TypeNamesReadBack, short_name_of, type_of, uri_of}
use Rattle.ent_values.specs.declared.datatype.DataType.TheVariants.{Text, Boolean, Integer, Date, AnyUri, YearMonth, Time, DateTime}

pub names_read_back : TypeNamesReadBack
unfolding type_of uri_of short_name_of
names_read_back Text = (refl, refl)
names_read_back Boolean = (refl, refl)
names_read_back Integer = (refl, refl)
names_read_back Date = (refl, refl)
names_read_back AnyUri = (refl, refl)
names_read_back YearMonth = (refl, refl)
names_read_back Time = (refl, refl)
names_read_back DateTime = (refl, refl)
