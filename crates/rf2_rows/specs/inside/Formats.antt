-- The formats of columns, as the enum `Format` of the code names them.
use Rattle.rf2_rows.specs.Columns.{Format, id_format, component_format, uuid_format, time_format, active_format}
use Rattle.rf2_rows.specs.Columns.{group_format, text_format, value_format}
use Rattle.rf2_rows.specs.declared.versions.Format.{Format as Named}
use Rattle.rf2_rows.specs.declared.versions.Format.TheVariants.{Id, Component, Uuid, Time, Active, Group, Text, Value}

-- the format of a column that a value of the enum stands for
abbrev pub format_of : Named → Format
format_of (Id part) = id_format part
format_of Component = component_format
format_of Uuid = uuid_format
format_of Time = time_format
format_of Active = active_format
format_of Group = group_format
format_of Text = text_format
format_of Value = value_format
