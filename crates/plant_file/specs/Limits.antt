-- The limits of a plant and of its file, by this project's profile: each is named here, and here alone stands as a number.
use Rattle.std.specs.Prelude.{ℕ, ◌^◌}

-- matrices are 0 to 15, and so are the levels of a matrix
abbrev pub matrix_limit : ℕ
matrix_limit = 16

abbrev pub level_limit : ℕ
level_limit = 16

-- the most sources of one level: they are 0 to 65534
abbrev pub level_source_limit : ℕ
level_source_limit = 65535

-- the most destinations of one level: they are 0 to 65535
abbrev pub level_destination_limit : ℕ
level_destination_limit = 65536

-- the most levels, sources and destinations of a plant
abbrev pub all_levels_limit : ℕ
all_levels_limit = 256

abbrev pub all_sources_limit : ℕ
all_sources_limit = 65536

abbrev pub all_destinations_limit : ℕ
all_destinations_limit = 65536

-- the most remote sources of a plant, and the most pools of tie-lines; the most tie-lines of a pool, all of which may be
-- kept for masters
abbrev pub remote_limit : ℕ
remote_limit = 16384

abbrev pub pool_limit : ℕ
pool_limit = 256

abbrev pub tie_limit : ℕ
tie_limit = 1024

-- the most devices of a plant, and the most buses of all of them
abbrev pub device_limit : ℕ
device_limit = 64

abbrev pub bus_limit : ℕ
bus_limit = 1024

-- the most destinations that are on air, and the most that are on preview
abbrev pub root_limit : ℕ
root_limit = 65536

-- the most displays of a plant; the greatest number of a screen, and of a place on it
abbrev pub display_limit : ℕ
display_limit = 4096

abbrev pub last_screen : ℕ
last_screen = 65534

abbrev pub last_index : ℕ
last_index = 65534

-- the most panels of a plant
abbrev pub panel_limit : ℕ
panel_limit = 64

-- the greatest device number
abbrev pub last_device : ℕ
last_device = 1023

-- the least and the greatest port of a panel
abbrev pub first_port : ℕ
first_port = 1

abbrev pub last_port : ℕ
last_port = 65535

-- the most bytes of a title, and of an address
abbrev pub longest_title : ℕ
longest_title = 40

abbrev pub longest_address : ℕ
longest_address = 64

-- how the plant is served: the longest time in milliseconds until a link is idle, the most idle reads in a row, the most
-- turns of a session, the most sessions of a panel, the most rounds of the displays until all are sent anew, and the
-- greatest brightness
abbrev pub longest_idle : ℕ
longest_idle = 60000

abbrev pub most_idles : ℕ
most_idles = 1000000

abbrev pub most_turns : ℕ
most_turns = 2 ^ 40

abbrev pub most_sessions : ℕ
most_sessions = 1000000

abbrev pub most_rounds : ℕ
most_rounds = 65535

abbrev pub greatest_brightness : ℕ
greatest_brightness = 3
