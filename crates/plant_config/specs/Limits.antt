-- The limits of a plant are those of its file.
pub use Rattle.plant_file.specs.Limits.{matrix_limit, level_limit, level_source_limit, level_destination_limit, all_levels_limit, all_sources_limit, all_destinations_limit, pool_limit, tie_limit, device_limit, bus_limit, root_limit, display_limit, last_screen, last_index, panel_limit, last_device, first_port, longest_title}
