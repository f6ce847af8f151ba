-- The first sensor with a name tells what the bank has for it.
use Rattle.std.proofs.Common.{◌≡◌, Bool, List, map, Option, Bor, ap, ◌∙◌}
use Rattle.std.specs.List.{find}
use Rattle.std.specs.Option.{option_map}
use Rattle.values.specs.declared.value.Value.{Value}
use Rattle.values.specs.Short.{Name}
use Rattle.readings.specs.Rows.{row_map}
use Rattle.readings.proofs.OneRow as row
use Rattle.sources.specs.Sensors.{sensor_name, sensor_value}
use Rattle.sources.specs.declared.sensor_bank.Sensor.{Sensor}

abbrev pub has_name : Name → Sensor → Bool
has_name = row.has_name sensor_name sensor_value

-- what is found is a reference
abbrev referred : Bor Sensor → Sensor
referred s = s.now

abbrev pub told : Option (Bor Sensor) → Value
told r = row.value_found sensor_name sensor_value (option_map referred r)

pub told_sensor : (ss : List Sensor) (x : Name) (r : Option (Bor Sensor)) → option_map referred r ≡ find (has_name x) ss → told r ≡ row_map (map sensor_name ss) (map sensor_value ss) x
told_sensor ss x r e = ap (row.value_found sensor_name sensor_value) e ∙ row.first_found sensor_name sensor_value ss x
