-- The sensor bank: what it has for a name.
use Rattle.std.specs.Prelude.{ℕ, cond, List, map, ◌==◌, ℤ}
use Rattle.values.specs.declared.value.Value.{Value}
use Rattle.values.specs.declared.value.Value.TheVariants.{Missing as missing, Error as error, Number as number}
use Rattle.readings.specs.Rows.{row_map}
use Rattle.sources.specs.declared.sensor_bank.Sensor.{Sensor}
use Rattle.sources.specs.declared.sensor_bank.SensorBank.{SensorBank}
use Rattle.sources.specs.declared.sensor_bank.Status.{Status}
use Rattle.sources.specs.declared.sensor_bank.Status.TheVariants.{Good, Broken, Absent}

-- 0 is good and 2 absent; 1 and everything above 2 is broken
abbrev pub status_of : ℕ → Status
status_of code = cond (code == 0) Good (cond (code == 2) Absent Broken)

abbrev pub value_by : Status → ℤ → Value
value_by Good z = number z
value_by Broken z = error
value_by Absent z = missing

abbrev pub sensor_value : Sensor → Value
sensor_value s = value_by s.status s.number

abbrev pub sensor_name : Sensor → List ℕ
sensor_name s = s.name

-- as in a row of readings: the value of the first sensor with the name, missing where there is none
abbrev pub bank_map : SensorBank → List ℕ → Value
bank_map b = row_map (map sensor_name b.sensors) (map sensor_value b.sensors)
