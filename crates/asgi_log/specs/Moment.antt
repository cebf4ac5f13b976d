-- A moment in UTC as text (RFC 3339, section 5.6).
use Rattle.std.specs.Prelude.{◌≡◌, ℕ, ℤ, List, ◌++◌, Some, pos, codes}
use Rattle.jiff_core.specs.declared.civil.date.Date.{Date}
use Rattle.jiff_core.specs.declared.civil.time.Time.{Time}
use Rattle.jiff_core.specs.declared.civil.datetime.DateTime.{DateTime}
use Rattle.jiff_core.specs.DateTime.{civil_nanos}
use Rattle.jiff_fmt.specs.Text.{date_text, time_text}

-- full-date: date-fullyear "-" date-month "-" date-mday
abbrev pub full_date : Date → List ℕ
full_date d = date_text d

-- partial-time: time-hour ":" time-minute ":" time-second, and a time-secfrac of three digits
abbrev pub partial_time : Time → List ℕ
partial_time t = time_text (Some 3) t

-- full-date "T" partial-time
abbrev pub date_time : DateTime → List ℕ
date_time dt = full_date dt.date ++ (codes "T" ++ partial_time dt.time)

-- date-time with the time-offset "Z": of the date and the time of day that are so many nanoseconds after 1970-01-01T00:00:00
abbrev pub IsDateTime : ℤ → List ℕ → Type 0
IsDateTime nanos text = (dt : DateTime) × (civil_nanos dt ≡ nanos) × (text ≡ date_time dt ++ codes "Z")

abbrev pub IsMoment : ℕ → List ℕ → Type 0
IsMoment nanos text = IsDateTime (pos nanos) text
